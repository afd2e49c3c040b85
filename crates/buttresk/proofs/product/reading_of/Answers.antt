-- `reading_of` meets its contract: 1, 2, or another number.
use mathlib.Core.Path.{◌≡◌}
use native.Mathlib.Omega.{arith}
use borrow.Author.Tests.{ne_eqb}
use Rattle.buttresk.specs.Product.{reading_of}
use Rattle.buttresk.proofs.product.reading_of.Goals as goal

pub returns-in-1 : goal.returns-in-1
unfolding reading_of
returns-in-1 c = simp c.in-1.is

pub returns-in-2 : goal.returns-in-2
unfolding reading_of
returns-in-2 c = simp c.in-2.is

pub returns-in_default : goal.returns-in_default
unfolding reading_of
returns-in_default c =
    let not_1 : c.args.number ≡ 1 → ⊥ = λ is. omega arith in
    let not_2 : c.args.number ≡ 2 → ⊥ = λ is. omega arith in
    simp (ne_eqb _ _ not_1, ne_eqb _ _ not_2)
