-- What tests tell.
use mathlib.Core.Path.{◌≡◌, refl}
use mathlib.Core.Bool.{Bool, true, false, ◌||◌}
use Prim.Native.Nat.{ℕ, ◌<◌}
use native.Mathlib.Omega.{arith}
use lib.Dec.{ltb}
use mathlib.Core.Path.{◌∙◌, sym}
use Rattle.octets.specs.Words.{pick}
use borrow.Author.Tests.{ltb-true, ltb-false, lt-ltb, le-ltb}

-- by a test's value
pub decide : {C : Type 0} (t : Bool) → (t ≡ true → C) → (t ≡ false → C) → C
decide true then else = then refl
decide false then else = else refl

-- two choices by one test
pub by_test_2 : {A B : Type 0} (P : A → B → Type 0) (t : Bool) {a c : A} {b d : B} → (t ≡ true → P a b) → (t ≡ false → P c d)
    → P (pick t a c) (pick t b d)
by_test_2 P true then else = then refl
by_test_2 P false then else = else refl

pub or_false : (t : Bool) → (t || false) ≡ t
or_false true = refl
or_false false = refl

pub or_true : (t : Bool) → (t || true) ≡ true
or_true true = refl
or_true false = refl

-- two tests of one fact
pub same_test : (a b c d : ℕ) → (c < d → a < b) → (a < b → c < d) → ltb a b ≡ ltb c d
same_test a b c d to from =
    decide (ltb c d)
    (λ e. lt-ltb a b (to (ltb-true c d e)) ∙ sym e)
    (λ e.
    let p = ltb-false c d e in
    let q : a < b → ⊥ = λ h. (let r = from h in omega arith) in
    le-ltb a b (omega arith) ∙ sym e)
