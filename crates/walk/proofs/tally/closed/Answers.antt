-- `closed` meets its contract: a table is full or not.
use mathlib.Core.Path.{◌∙◌}
use borrow.Author.Tests.{le-leb, lt-leb}
use Rattle.walk.specs.Turns.{closed_of}
use Rattle.walk.proofs.tally.closed.Goals as goal

pub returns-then-room-t : goal.returns-then-room-t
unfolding closed_of
returns-then-room-t c = c.refused.ensures ∙ simp (le-leb _ _ c.if-room-t.true)

pub returns-then-room-t-2 : goal.returns-then-room-t-2
unfolding closed_of
returns-then-room-t-2 c = c.refused-then-room-t-2.ensures ∙ simp (lt-leb _ _ c.if-room-t.false, le-leb _ _ c.if-room-t-2.true)

pub returns : goal.returns
unfolding closed_of
returns c =
    simp (
      lt-leb _ _ c.if-room-t.false,
      lt-leb _ _ c.if-room-t-2.false,
      c.line_of.ensures,
      c.opened.ensures,
      c.one_more-3.ensures,
      c.one_more-2.ensures,
      c.one_more.ensures,
    )
