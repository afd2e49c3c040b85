-- `judge_all` meets its contract. The loop keeps `Kept`: what is left, judged, is the whole list judged.
use mathlib.Core.Path.{◌≡◌}
use mathlib.Core.List.{List}
use Prim.Native.Nat.{ℕ, ◌≤◌}
use lib.ListN.{length, drop}
use Rattle.order.specs.Order.{order_from, order_of}
use Rattle.order.specs.declared.Order.{Order}
use Rattle.order.proofs.judge_all.Given as goal

-- at the loop's test: what is left, judged after what was read last, is the whole list judged
pub record Kept (numbers : List ℕ) (order : Order) (i : ℕ) : Type 0 where
  pub within : i ≤ length numbers
  pub same : order_from order i (drop i numbers) ≡ order_of numbers

abbrev pub invariant-loop-i : goal.invariant-loop-i
invariant-loop-i l = Kept l.numbers l.order l.i
