-- The laws of big-endian numbers, over the width.
use mathlib.Core.Path.{◌≡◌, refl}
use Prim.Native.Nat.{ℕ, zero, suc, ◌+◌, ◌*◌, ◌^◌, ◌<◌, ◌≤◌}
use mathlib.Core.List.{List}
use native.Mathlib.Nat.{pow-suc, pow-le-pow_right}
use native.Mathlib.Numerals.{add-one}
use native.Mathlib.Omega.{arith}
use lib.Dec.{lit<}
use lib.ListN.{get_or}
use mir.Syntax.{w8}
use mir.Val.{Fits}
use Rattle.octets.specs.BigEndian.{be_at}

-- one octet more
pub be_more : (s : List ℕ) (at k : ℕ) → be_at s at (k + 1) ≡ be_at s at k * 256 + get_or s (at + k) 0
unfolding be_at
be_more s at k = rw add-one

-- a number of k octets is below 256 ^ k
pub be_lt : (s : List ℕ) (at : ℕ) → ((i : ℕ) → Fits w8 (get_or s i 0)) → (k : ℕ) → be_at s at k < 256 ^ k
unfolding be_at
be_lt s at h zero = lit< tt
be_lt s at h (suc k) = rw pow-suc (omega (arith, be_lt s at h k, h (at + k)))

-- and so below 256 ^ w, for any w octets that it is not wider than
pub be_below : (s : List ℕ) (at k w : ℕ) → ((i : ℕ) → Fits w8 (get_or s i 0)) → k ≤ w → be_at s at k < 256 ^ w
be_below s at k w h fits = omega (arith, be_lt s at h k, pow-le-pow_right {n = 256} (lit< tt) fits)

-- equal octets write equal numbers, wherever they stand
pub be_same : (s t : List ℕ) (at to k : ℕ) → ((i : ℕ) → i < k → get_or s (at + i) 0 ≡ get_or t (to + i) 0) → be_at s at k ≡ be_at t to k
unfolding be_at
be_same s t at to zero h = refl
be_same s t at to (suc k) h =
    let before = be_same s t at to k (λ i p. h i (omega arith)) in
    let last = h k (omega arith) in
    rw (before, last)

-- a bound by a width, at a width that is known
pub at_width : (n : ℕ) {w r : ℕ} → r < 256 ^ w → w ≡ n → r < 256 ^ n
at_width n h e = rw e at h
