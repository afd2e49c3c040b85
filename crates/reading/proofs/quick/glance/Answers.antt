-- `glance` meets its contract: what it sees is what `look` sees.
use Rattle.std.specs.Prelude.{Option, Some}
use Prim.Native.Nat.{ℕ}
use mathlib.Core.Path.{◌≡◌, subst}
use mathlib.Core.List.{List}
use Rattle.order.specs.declared.Order.{Order}
use Rattle.order.specs.declared.Order.TheVariants.{BetweenMessages}
use Rattle.framing.specs.declared.read.Section.{Section}
use Rattle.framing.specs.declared.read.Cursor.{Cursor}
use Rattle.reading.specs.Reading.{reading, seen_by_order, seen_by_read, seen}
use Rattle.reading.specs.Glance.{last_read, PassingAhead, ClosingAhead, Glanced}
use Rattle.reading.specs.declared.Reading.{Reading}
use Rattle.reading.specs.declared.Seen.TheVariants.{Passes, Closes}
use Rattle.reading.proofs.quick.glance.Goals as goal

-- a section that passes at a glance is seen
glanced : (file : List ℕ) (r : Reading) (a : Option (Section × Cursor)) (s : Section) (next : Cursor) (o : Order)
    → Glanced (PassingAhead file r.cursor r.order) a → a ≡ Some (s, next) → o ≡ last_read s.number
    → Passes s (reading next o) ≡ seen file r
unfolding Glanced seen seen_by_read seen_by_order
glanced file r a s next o p e f =
    let q : PassingAhead file r.cursor r.order s next = subst (Glanced (PassingAhead file r.cursor r.order)) e p in
    rw (q.reads, q.fitting.fits, f)

closes : (file : List ℕ) (r : Reading) (a : Option (Section × Cursor)) (s : Section) (next : Cursor)
    → Glanced (ClosingAhead file r.cursor r.order) a → a ≡ Some (s, next) → Closes s (reading next BetweenMessages) ≡ seen file r
unfolding Glanced seen seen_by_read seen_by_order
closes file r a s next p e =
    let q : ClosingAhead file r.cursor r.order s next = subst (Glanced (ClosingAhead file r.cursor r.order)) e p in
    rw (q.reads, q.closes)

pub returns-in-Some : goal.returns-in-Some
returns-in-Some c =
    let args = c.args in
    glanced args.file.now args.reading _ _ _ _ c.header_ahead-ahead.ensures c.in-Some.is c.last_read.ensures

pub returns-in-Some-end : goal.returns-in-Some-end
returns-in-Some-end c =
    let args = c.args in
    closes args.file.now args.reading _ _ _ c.end_ahead-end.ensures c.in-Some-end.is
