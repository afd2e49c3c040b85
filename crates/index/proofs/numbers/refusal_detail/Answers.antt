-- `refusal_detail` meets its contract: case by case.
use mathlib.Core.Path.{◌∙◌}
use Rattle.index.specs.Numbers.{refusal_detail}
use Rattle.index.proofs.numbers.refusal_detail.Goals as goal

pub returns-in-FileTooLong : goal.returns-in-FileTooLong
unfolding refusal_detail
returns-in-FileTooLong c = rw c.in-FileTooLong.is

pub returns-in-Unreadable : goal.returns-in-Unreadable
unfolding refusal_detail
returns-in-Unreadable c = c.fault_detail.ensures ∙ rw c.in-Unreadable.is

pub returns-in-InputOver : goal.returns-in-InputOver
unfolding refusal_detail
returns-in-InputOver c = rw c.in-InputOver.is

pub returns-in-Misplaced : goal.returns-in-Misplaced
unfolding refusal_detail
returns-in-Misplaced c = rw c.in-Misplaced.is

pub returns-in-NoGrid : goal.returns-in-NoGrid
unfolding refusal_detail
returns-in-NoGrid c = rw c.in-NoGrid.is

pub returns-in-SectionTableFull : goal.returns-in-SectionTableFull
unfolding refusal_detail
returns-in-SectionTableFull c = rw c.in-SectionTableFull.is

pub returns-in-SubmessageTableFull : goal.returns-in-SubmessageTableFull
unfolding refusal_detail
returns-in-SubmessageTableFull c = rw c.in-SubmessageTableFull.is
