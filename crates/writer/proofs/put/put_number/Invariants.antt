-- `put_number` meets its contract. The loop keeps `Kept`: the octets that are left, put, are the whole number put.
use Prim.Native.Nat.{ℕ, ◌≤◌}
use mathlib.Core.Path.{◌≡◌}
use mathlib.Core.List.{List}
use lib.ListN.{length}
use Rattle.writer.specs.Message.{digits}
use Rattle.writer.specs.Put.{written_at}
use Rattle.writer.proofs.put.put_number.Given as goal

pub record Kept (dest : List ℕ) (at width number : ℕ) (d : List ℕ) (left value : ℕ) : Type 0 where
  pub long : length d ≡ length dest
  pub few : left ≤ width
  pub same : written_at d at (digits left value) ≡ written_at dest at (digits width number)

abbrev pub invariant-loop-left : goal.invariant-loop-left
invariant-loop-left l = Kept l.initial.dest l.at l.width l.number l.dest l.left l.value
