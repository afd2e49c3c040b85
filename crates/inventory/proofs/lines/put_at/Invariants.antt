-- `put_at` meets its contract. The loop keeps that the octets so far are copied.
use mathlib.Core.Path.{◌≡◌}
use lib.Seq.{paste}
use Rattle.inventory.proofs.lines.put_at.Given as goal

abbrev pub invariant-loop-i : goal.invariant-loop-i
invariant-loop-i l = l.text ≡ paste l.initial.text l.at l.line l.i
