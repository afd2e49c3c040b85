-- `kinds::reading_of` meets its contract: the number is that of one reading, of the other, or of none.
use mathlib.Core.Path.{◌≡◌}
use native.Mathlib.Omega.{arith}
use borrow.Author.Tests.{ne_eqb}
use Rattle.requests.specs.Requests.{reading_of}
use Rattle.requests.proofs.kinds.reading_of.Goals as goal

pub returns-in-0 : goal.returns-in-0
unfolding reading_of
returns-in-0 c = simp c.in-0.is

pub returns-in-1 : goal.returns-in-1
unfolding reading_of
returns-in-1 c = simp c.in-1.is

pub returns-in_default : goal.returns-in_default
unfolding reading_of
returns-in_default c =
    let not_0 : c.args.number ≡ 0 → ⊥ = λ is. omega arith in
    let not_1 : c.args.number ≡ 1 → ⊥ = λ is. omega arith in
    simp (ne_eqb _ _ not_0, ne_eqb _ _ not_1)
