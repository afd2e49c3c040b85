-- `stopped` meets its contract: by what is seen.
use mathlib.Core.Path.{◌∙◌}
use Rattle.inventory.specs.Turn.{stopped_by}
use Rattle.inventory.proofs.turn.stopped.Goals as goal

pub returns-in-Passes : goal.returns-in-Passes
unfolding stopped_by
returns-in-Passes c = c.refused.ensures ∙ rw c.in-Passes.is

pub returns-in-Closes : goal.returns-in-Closes
unfolding stopped_by
returns-in-Closes c = c.refused-in-Closes.ensures ∙ rw c.in-Closes.is

pub returns-in-Misplaced : goal.returns-in-Misplaced
unfolding stopped_by
returns-in-Misplaced c = c.refused-in-Misplaced.ensures ∙ rw c.in-Misplaced.is

pub returns-in-NoGrid : goal.returns-in-NoGrid
unfolding stopped_by
returns-in-NoGrid c = rw c.in-NoGrid.is

pub returns-in-Clean : goal.returns-in-Clean
unfolding stopped_by
returns-in-Clean c = rw c.in-Clean.is

pub returns-in-InputOver : goal.returns-in-InputOver
unfolding stopped_by
returns-in-InputOver c = rw c.in-InputOver.is

pub returns-in-Unreadable : goal.returns-in-Unreadable
unfolding stopped_by
returns-in-Unreadable c = rw c.in-Unreadable.is
