-- `total_of` meets its contract: the sum is below 2^64, or it passes it once.
use Prim.Native.Nat.{ℕ, ◌+◌, ◌-◌, ◌*◌, ◌%◌, ◌^◌, ◌<◌}
use mathlib.Core.Path.{◌≡◌, sym}
use native.Mathlib.Omega.{arith}
use Rattle.std.proofs.Math.Nat.{mod-eq_of_lt, add-mul-mod_self_right}
use Rattle.standing.specs.Standing.{total_of}
use Rattle.standing.proofs.total_of.Goals as goal

-- what is over 2^64 is what is left of the sum
over : (left n : ℕ) → left < 2 ^ 64 → n ≡ left + 1 * 2 ^ 64 → left ≡ n % 2 ^ 64
over left n small e = rw (e, add-mul-mod_self_right left 1 (2 ^ 64), mod-eq_of_lt small)

pub returns-then-rest-most : goal.returns-then-rest-most
unfolding total_of
returns-then-rest-most c =
    let small : c.args.rest + 16 < 2 ^ 64 = omega arith in
    sym (mod-eq_of_lt small)

pub returns : goal.returns
unfolding total_of
returns c = over (c.args.rest - 18446744073709551599 - 1) (c.args.rest + 16) (omega arith) (omega arith)
