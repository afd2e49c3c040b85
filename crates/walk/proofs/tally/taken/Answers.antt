-- `taken` meets its contract: by whether the section completes a submessage, and whether there is room for its line.
use mathlib.Core.Path.{sym, ◌∙◌}
use borrow.Author.Tests.{le-leb, lt-leb}
use Rattle.walk.specs.Turns.{taken_of}
use Rattle.walk.proofs.tally.taken.Goals as goal

pub returns-then-room-t : goal.returns-then-room-t
unfolding taken_of
returns-then-room-t c = c.refused.ensures ∙ rw (sym c.completing.ensures ∙ c.if-completing.true, le-leb _ _ c.if-room-t.true)

pub returns-then-completing : goal.returns-then-completing
unfolding taken_of
returns-then-completing c =
    c.fitted.ensures
    ∙ rw (c.told.ensures, sym c.completing.ensures ∙ c.if-completing.true, lt-leb _ _ c.if-room-t.false)

pub returns : goal.returns
unfolding taken_of
returns c = c.fitted-2.ensures ∙ rw (sym c.completing.ensures ∙ c.if-completing.false)
