-- `last_read` meets its contract: each key decides the picks, and so does being none of the keys.
use Prim.Native.Nat.{ℕ, ◌<◌}
use mathlib.Core.Path.{◌≡◌}
use native.Mathlib.Omega.{arith}
use borrow.Author.Tests.{ne_eqb}
use Rattle.reading.specs.Glance.{last_read}
use Rattle.reading.proofs.quick.last_read.Goals as goal

pub returns-in-0 : goal.returns-in-0
unfolding last_read
returns-in-0 c = rw c.in-0.is

pub returns-in-1 : goal.returns-in-1
unfolding last_read
returns-in-1 c = rw c.in-1.is

pub returns-in-2 : goal.returns-in-2
unfolding last_read
returns-in-2 c = rw c.in-2.is

pub returns-in-3 : goal.returns-in-3
unfolding last_read
returns-in-3 c = rw c.in-3.is

pub returns-in-4 : goal.returns-in-4
unfolding last_read
returns-in-4 c = rw c.in-4.is

pub returns-in-5 : goal.returns-in-5
unfolding last_read
returns-in-5 c = rw c.in-5.is

pub returns-in-6 : goal.returns-in-6
unfolding last_read
returns-in-6 c = rw c.in-6.is

pub returns-in_default : goal.returns-in_default
unfolding last_read
returns-in_default c =
    let none : (n : ℕ) → n < 7 → c.args.number ≡ n → ⊥ = λ n few is. omega arith in
    simp (
      ne_eqb _ _ (none 0 (omega arith)),
      ne_eqb _ _ (none 1 (omega arith)),
      ne_eqb _ _ (none 2 (omega arith)),
      ne_eqb _ _ (none 3 (omega arith)),
      ne_eqb _ _ (none 4 (omega arith)),
      ne_eqb _ _ (none 5 (omega arith)),
      ne_eqb _ _ (none 6 (omega arith)),
    )
