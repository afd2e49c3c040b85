-- `octets::sign_and_size` meets its contract: at each `return` the tests that led there say which case of `signed_of` holds.
use Rattle.std.specs.Prelude.{Some}
use mathlib.Core.Path.{◌≡◌, ap, ◌∙◌}
use Prim.Native.Nat.{ℕ, ◌-◌, ◌*◌, ◌%◌, ◌^◌, ◌<◌, ◌≤◌}
use native.Mathlib.Nat.{mod-lt}
use native.Mathlib.Omega.{arith}
use borrow.Author.Rules.{sfits_of}
use mir.Syntax.{w32}
use borrow.Author.Tests.{lt-ltb, le-ltb}
use lib.Pow.{pow_pos, pow_mono}
use mir.Facts.{to_z-of_z}
use Rattle.octets.specs.Signed.{signed_of}
use Rattle.octets.proofs.sign_and_size.Goals as goal

-- the sign bit of n octets is no zero, and at most 4 octets write a size below 2 ^ 31
above : {h : ℕ} (n : ℕ) → h ≡ 2 ^ (8 * n - 1) → 0 < h
above n e = rw e (pow_pos (8 * n - 1))

small : (x : ℕ) {h : ℕ} (n : ℕ) → n ≤ 4 → h ≡ 2 ^ (8 * n - 1) → x % h < 2 ^ 31
small x n le e = omega (arith, mod-lt x (above n e), pow_mono {i = 8 * n - 1} {j = 31} (omega arith))

pub returns-then-n-lt1 : goal.returns-then-n-lt1
unfolding signed_of
returns-then-n-lt1 c = simp (lt-ltb _ _ c.if-n-lt1.true)

pub returns-then-n-gt4 : goal.returns-then-n-gt4
unfolding signed_of
returns-then-n-gt4 c = simp (le-ltb _ _ c.if-n-lt1.false, lt-ltb _ _ c.if-n-gt4.true)

pub nonzero_rem-size : goal.nonzero_rem-size
nonzero_rem-size c = above _ c.sign_bit.ensures

pub plus-requires : goal.plus-requires
plus-requires c = small _ _ (omega arith) c.sign_bit.ensures

pub minus-requires : goal.minus-requires
minus-requires c = small _ _ (omega arith) c.sign_bit.ensures

pub returns-then-s-lt128 : goal.returns-then-s-lt128
unfolding signed_of
returns-then-s-lt128 c =
    ap Some (to_z-of_z {w = w32} {z = c.plus.result} (sfits_of c.plus.type_inv) ∙ c.plus.ensures)
    ∙ simp (le-ltb _ _ c.if-n-lt1.false, le-ltb _ _ c.if-n-gt4.false, lt-ltb _ _ c.if-s-lt128.true, c.sign_bit.ensures, c.big_endian.ensures.0)

pub returns-else-s-lt128 : goal.returns-else-s-lt128
unfolding signed_of
returns-else-s-lt128 c =
    ap Some (to_z-of_z {w = w32} {z = c.minus.result} (sfits_of c.minus.type_inv) ∙ c.minus.ensures)
    ∙ simp (le-ltb _ _ c.if-n-lt1.false, le-ltb _ _ c.if-n-gt4.false, le-ltb _ _ c.if-s-lt128.false, c.sign_bit.ensures, c.big_endian.ensures.0)
