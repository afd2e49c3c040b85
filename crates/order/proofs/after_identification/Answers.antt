-- `after_identification` meets its contract: each key decides the picks, and so does being none of the keys.
use Prim.Native.Nat.{ℕ, ◌<◌}
use mathlib.Core.Path.{◌≡◌}
use native.Mathlib.Omega.{arith}
use borrow.Author.Tests.{ne_eqb}
use Rattle.order.proofs.after_identification.Goals as goal

pub returns-in_default : goal.returns-in_default
returns-in_default c =
    let none : (n : ℕ) → 1 < n → n < 5 → c.args.number ≡ n → ⊥ = λ n low few is. omega arith in
    simp (
      ne_eqb _ _ (none 2 (omega arith) (omega arith)),
      ne_eqb _ _ (none 3 (omega arith) (omega arith)),
      ne_eqb _ _ (none 4 (omega arith) (omega arith)),
    )
