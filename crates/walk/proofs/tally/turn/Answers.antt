-- `turn` meets its contract: by what is seen.
use mathlib.Core.Path.{◌∙◌}
use Rattle.walk.specs.Turns.{by_seen}
use Rattle.walk.proofs.tally.turn.Goals as goal

pub returns-in-Passes : goal.returns-in-Passes
unfolding by_seen
returns-in-Passes c = c.taken.ensures ∙ rw c.in-Passes.is

pub returns-in-Closes : goal.returns-in-Closes
unfolding by_seen
returns-in-Closes c = c.closed.ensures ∙ rw c.in-Closes.is

pub returns-in-Misplaced : goal.returns-in-Misplaced
unfolding by_seen
returns-in-Misplaced c = c.misplaced.ensures ∙ rw c.in-Misplaced.is

pub returns-in-NoGrid : goal.returns-in-NoGrid
unfolding by_seen
returns-in-NoGrid c = c.refused.ensures ∙ rw c.in-NoGrid.is

pub returns-in-Clean : goal.returns-in-Clean
unfolding by_seen
returns-in-Clean c = c.ended.ensures ∙ rw c.in-Clean.is

pub returns-in-InputOver : goal.returns-in-InputOver
unfolding by_seen
returns-in-InputOver c = c.ended-in-InputOver.ensures ∙ rw c.in-InputOver.is

pub returns-in-Unreadable : goal.returns-in-Unreadable
unfolding by_seen
returns-in-Unreadable c = c.ended-in-Unreadable.ensures ∙ rw c.in-Unreadable.is
