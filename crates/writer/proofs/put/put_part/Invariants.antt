-- `put_part` meets its contract. The loop keeps that the octets so far are copied.
use Prim.Native.Nat.{ℕ}
use mathlib.Core.Path.{◌≡◌}
use mathlib.Core.List.{List}
use lib.ListN.{length, drop}
use lib.Seq.{paste}
use Rattle.writer.proofs.put.put_part.Given as goal

pub record Copied (store : List ℕ) (from : ℕ) (dest : List ℕ) (at : ℕ) (d : List ℕ) (i : ℕ) : Type 0 where
  pub long : length d ≡ length dest
  pub same : d ≡ paste dest at (drop from store) i

abbrev pub invariant-loop-i : goal.invariant-loop-i
invariant-loop-i l = Copied l.store l.from l.initial.dest l.at l.dest l.i
