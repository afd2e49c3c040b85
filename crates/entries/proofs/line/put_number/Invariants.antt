-- `put_number` meets its contract. The loop keeps `Kept`: the digits that are left, before those that are put, are the number's.
use Prim.Native.Nat.{ℕ, ◌≤◌, ◌<◌, ◌^◌}
use mathlib.Core.Path.{◌≡◌}
use mathlib.Core.List.{List, ◌++◌}
use lib.ListN.{length}
use Rattle.entries.specs.Decimal.{decimal}
use Rattle.entries.specs.Put.{PutBefore}
use Rattle.entries.proofs.line.put_number.Given as goal

pub record Kept (dest : List ℕ) (end number : ℕ) (d : List ℕ) (at left : ℕ) : Type 0 where
  pub done : List ℕ
  pub small : left < 10 ^ 20
  pub room : length (decimal left) ≤ at
  pub within : end ≤ length dest
  pub all : decimal left ++ done ≡ decimal number
  pub put : PutBefore end done dest at d

abbrev pub invariant-loop-left : goal.invariant-loop-left
invariant-loop-left l = Kept l.initial.dest l.end l.number l.dest l.at l.left

abbrev pub decreases-loop-left : goal.decreases-loop-left
decreases-loop-left l = l.left
