-- `row_only` meets its contract: by what is seen, then by the two tests.
use Rattle.std.specs.Prelude.{None}
use mathlib.Core.Path.{◌≡◌, refl, sym, ◌∙◌}
use borrow.Author.Tests.{le-leb, lt-leb}
use Rattle.framing.specs.declared.read.Section.{Section}
use Rattle.index.specs.declared.bounds.Room.{Room}
use Rattle.reading.specs.declared.Reading.{Reading}
use Rattle.reading.specs.declared.Seen.{Seen}
use Rattle.reading.specs.declared.Seen.TheVariants.{Passes, Closes, Misplaced, NoGrid, Clean, InputOver, Unreadable}
use Rattle.walk.specs.Turns.{row_only}
use Rattle.standing.specs.declared.Standing.{Standing}
use Rattle.walk.proofs.lines.row_only.Goals as goal

-- what is seen is another than a section that passes
elsewhere : (room : Room) (at : Standing) (v : Seen) → ((s : Section) (next : Reading) → v ≡ Passes s next → ⊥) → None ≡ row_only room at v
unfolding row_only
elsewhere room at (Passes s next) other = absurd (other s next refl)
elsewhere room at (Closes s next) other = refl
elsewhere room at (Misplaced s) other = refl
elsewhere room at (NoGrid s) other = refl
elsewhere room at Clean other = refl
elsewhere room at InputOver other = refl
elsewhere room at (Unreadable fault offset) other = refl

pub returns-then-room-at : goal.returns-then-room-at
unfolding row_only
returns-then-room-at c = rw (c.in-Passes.is, le-leb _ _ c.if-room-at.true)

pub returns-then-completing : goal.returns-then-completing
unfolding row_only
returns-then-completing c = rw (c.in-Passes.is, lt-leb _ _ c.if-room-at.false, sym c.completing.ensures ∙ c.if-completing.true)

pub returns-else-completing : goal.returns-else-completing
unfolding row_only
returns-else-completing c = rw (c.in-Passes.is, lt-leb _ _ c.if-room-at.false, sym c.completing.ensures ∙ c.if-completing.false)

pub returns-in_default : goal.returns-in_default
returns-in_default c = elsewhere c.args.room c.args.at c.args.seen c.in_default.not-Passes
