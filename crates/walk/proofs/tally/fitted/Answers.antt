-- `fitted` meets its contract: the section table is full or not.
use mathlib.Core.Path.{◌∙◌}
use borrow.Author.Tests.{le-leb, lt-leb}
use Rattle.walk.specs.Turns.{fitted_of}
use Rattle.walk.proofs.tally.fitted.Goals as goal

pub returns-then-room-t : goal.returns-then-room-t
unfolding fitted_of
returns-then-room-t c = c.refused.ensures ∙ simp (le-leb _ _ c.if-room-t.true)

pub returns : goal.returns
unfolding fitted_of
returns c = c.passed.ensures ∙ simp (lt-leb _ _ c.if-room-t.false)
