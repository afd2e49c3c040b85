-- `digits_at` meets its contract. The loop's invariant: what is read on from `i` behind `value` is
-- the answer.
use Prim.Native.Nat.{◌-◌, ◌≤◌}
use mathlib.Core.Path.{◌≡◌}
use lib.ListN.{length, drop}
use Rattle.lists.specs.Line.{take_digits}
use Rattle.lists.proofs.line.digits_at.Given as goal

abbrev pub invariant-loop-i : goal.invariant-loop-i
invariant-loop-i l =
    (l.value ≤ 1099511627776)
    × (take_digits l.most l.close l.value (drop l.i l.text)
    ≡ take_digits l.most l.close l.first (drop l.at l.text))

abbrev pub decreases-loop-i : goal.decreases-loop-i
decreases-loop-i l = length l.text - l.i
