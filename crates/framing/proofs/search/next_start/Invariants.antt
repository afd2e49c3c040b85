-- `next_start` meets its contract. The loop's invariant: no message starts from `at` up to `i`; it has no start behind
-- `last` to look for.
use Prim.Native.Nat.{ℕ, suc, ◌-◌, ◌≤◌, ◌<◌}
use mathlib.Core.Path.{◌≡◌}
use mathlib.Core.Bool.{true}
use Rattle.framing.specs.Search.{starts_at}
use Rattle.framing.proofs.search.next_start.Given as goal

abbrev pub invariant-loop-i : goal.invariant-loop-i
invariant-loop-i l = (l.at ≤ l.i) × ((k : ℕ) → k < l.i → l.at ≤ k → starts_at l.file k ≡ true → ⊥)

abbrev pub decreases-loop-i : goal.decreases-loop-i
decreases-loop-i l = suc l.last - l.i
