-- The refusal that no file gives: wherever a walk comes to between messages a section 0 is read, so what is taken there unasked is what the
-- order says of it.
use mathlib.Core.Path.{◌≡◌}
use mathlib.Core.List.{List}
use Prim.Native.Nat.{ℕ}
use Rattle.order.specs.Order.{judged, judged_read}
use Rattle.order.proofs.Laws.{read_judged}
use Rattle.framing.specs.Framing.{read_at}
use Rattle.framing.specs.declared.read.Section.{Section}
use Rattle.framing.specs.declared.read.Cursor.{Cursor}
use Rattle.framing.specs.Read as read
use Rattle.framing.proofs.OneRead.{reads_as, starts_with_0}
use Rattle.reading.specs.Reading.{Settled}
use Rattle.reading.specs.declared.Reading.{Reading}

pub as_judged : (file : List ℕ) (r : Reading) → Settled r → {s : Section} {next : Cursor}
    → read_at file r.cursor.at.0 r.cursor.rest ≡ read.Section s next
    → judged_read r.order s.number ≡ judged r.order s.number
as_judged file r settled {s} e =
    read_judged r.order s.number λ between. starts_with_0 (reads_as file r.cursor.at.0 r.cursor.rest e) (settled between)
