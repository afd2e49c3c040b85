-- `kind_of` meets its contract: in each arm the number is known, and in the last it is no kind's.
use Prim.Native.Nat.{ℕ, ◌<◌}
use mathlib.Core.Path.{◌≡◌}
use native.Mathlib.Omega.{arith}
use borrow.Author.Tests.{ne_eqb}
use Rattle.sections.specs.Kinds.{kinds, kind_of}
use Rattle.sections.proofs.kinds.kind_of.Goals as goal

pub returns-in-0 : goal.returns-in-0
unfolding kind_of kinds
returns-in-0 c = simp (c.in-0.is)

pub returns-in-1 : goal.returns-in-1
unfolding kind_of kinds
returns-in-1 c = simp (c.in-1.is)

pub returns-in-2 : goal.returns-in-2
unfolding kind_of kinds
returns-in-2 c = simp (c.in-2.is)

pub returns-in-3 : goal.returns-in-3
unfolding kind_of kinds
returns-in-3 c = simp (c.in-3.is)

pub returns-in-4 : goal.returns-in-4
unfolding kind_of kinds
returns-in-4 c = simp (c.in-4.is)

pub returns-in-5 : goal.returns-in-5
unfolding kind_of kinds
returns-in-5 c = simp (c.in-5.is)

pub returns-in-6 : goal.returns-in-6
unfolding kind_of kinds
returns-in-6 c = simp (c.in-6.is)

pub returns-in-7 : goal.returns-in-7
unfolding kind_of kinds
returns-in-7 c = simp (c.in-7.is)

pub returns-in-8 : goal.returns-in-8
unfolding kind_of kinds
returns-in-8 c = simp (c.in-8.is)

pub returns-in_default : goal.returns-in_default
unfolding kind_of kinds
returns-in_default c =
    let none : (n : ℕ) → n < 9 → c.args.number ≡ n → ⊥ = λ n few is. omega arith in
    simp (
      ne_eqb _ _ (none 0 (omega arith)),
      ne_eqb _ _ (none 1 (omega arith)),
      ne_eqb _ _ (none 2 (omega arith)),
      ne_eqb _ _ (none 3 (omega arith)),
      ne_eqb _ _ (none 4 (omega arith)),
      ne_eqb _ _ (none 5 (omega arith)),
      ne_eqb _ _ (none 6 (omega arith)),
      ne_eqb _ _ (none 7 (omega arith)),
      ne_eqb _ _ (none 8 (omega arith)),
    )
