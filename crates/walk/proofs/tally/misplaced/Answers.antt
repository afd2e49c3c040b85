-- `misplaced` meets its contract: by whether the section completes a submessage, and whether there is room for its line.
use mathlib.Core.Path.{sym, ◌∙◌}
use borrow.Author.Tests.{le-leb, lt-leb}
use Rattle.walk.specs.Turns.{misplaced_of}
use Rattle.walk.proofs.tally.misplaced.Goals as goal

pub returns-then-room-t : goal.returns-then-room-t
unfolding misplaced_of
returns-then-room-t c = c.refused.ensures ∙ rw (sym c.completing.ensures ∙ c.if-completing.true, le-leb _ _ c.if-room-t.true)

pub returns-then-completing : goal.returns-then-completing
unfolding misplaced_of
returns-then-completing c =
    c.refused-then-completing.ensures
    ∙ rw (c.told.ensures, sym c.completing.ensures ∙ c.if-completing.true, lt-leb _ _ c.if-room-t.false)

pub returns : goal.returns
unfolding misplaced_of
returns c = c.refused-2.ensures ∙ rw (sym c.completing.ensures ∙ c.if-completing.false)
