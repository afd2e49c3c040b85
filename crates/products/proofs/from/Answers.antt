-- `from` meets its contract: a part that runs to the end is what `drop` leaves.
use mathlib.Core.Path.{◌≡◌}
use mathlib.Core.List.{List}
use Prim.Native.Nat.{ℕ, ◌-◌, ◌<◌}
use native.Mathlib.Nat.{le_refl}
use native.Mathlib.Omega.{arith}
use lib.ListN.{length, take, drop, length-drop, drop_of_length-le}
use lib.Seq.{take_all, drop-length, take-nil}
use Rattle.products.proofs.from.Goals as goal

-- past the end both parts are empty
beyond : (s : List ℕ) (at : ℕ) → length s < at → take (length s - length s) (drop (length s) s) ≡ drop at s
beyond s at h = rw (drop-length, take-nil, drop_of_length-le s {i = at} (omega arith))

-- a part to the end is all that is left
whole : (s : List ℕ) (at : ℕ) → take (length s - at) (drop at s) ≡ drop at s
whole s at = take_all (length s - at) (drop at s) (rw length-drop (le_refl _))

pub returns-then-s-at : goal.returns-then-s-at
returns-then-s-at c = beyond _ _ c.if-s-at.true

pub returns : goal.returns
returns c = let a = c.args in whole a.s.now a.at
