-- What a table of ranges says of a whole interval, computed once, holds at each of its numbers.
use mathlib.Core.Path.{◌≡◌, refl, sym, ◌∙◌}
use mathlib.Core.Bool.{Bool, true, false, ◌&&◌}
use mathlib.Core.List.{List, [], ◌∷◌}
use Prim.Native.Nat.{ℕ, ◌+◌, ◌-◌, ◌≤◌}
use native.Mathlib.Omega.{arith}
use lib.Dec.{T, leb, ltb, ltb→lt}
use mir.Facts.{and_yes}
use borrow.Author.Tests.{le-leb, lt-leb, leb-true, ltb-true, ltb-false}
use Rattle.octets.specs.Words.{pick}
use Rattle.products.specs.Ranges.{Range, ◌to◌is◌, lookup}

-- what a table says of the numbers of an interval: one value of them all, or several
pub data Verdict (A : Type 0) : Type 0 where
  all : A → Verdict A
  mixed : Verdict A

-- the verdict on an interval: of the ranges that meet it, the first holds it whole, or it is mixed
abbrev pub over : {A : Type 0} → A → ℕ → ℕ → List (Range A) → Verdict A
over other low high [] = all other
over other low high ((a to b is value) ∷ more) =
    let later = over other low high more in
    pick (ltb high a) later
    (pick (ltb b low) later (pick (leb a low) (pick (leb high b) (all value) mixed) mixed))

-- a choice between one thing and itself
pick_same : {A : Type 0} (t : Bool) (a : A) → pick t a a ≡ a
pick_same true a = refl
pick_same false a = refl

-- the verdict on an interval holds at a number of it: `one` says so of one range, by the four tests
-- of its ends
module _ {A : Type 0} (other r : A) (low high n : ℕ) (p : low ≤ n) (q : n ≤ high) where
  module _ (a b : ℕ) (value : A) (more : List (Range A)) (later : Verdict A) where
    one :
        (later ≡ all r → lookup other n more ≡ r) →
        (s t u v : Bool) → ltb high a ≡ s → ltb b low ≡ t → leb a low ≡ u → leb high b ≡ v →
        pick s later (pick t later (pick u (pick v (all value) mixed) mixed)) ≡ all r →
        lookup other n ((a to b is value) ∷ more) ≡ r
    one rest true t u v d f g h e = rw (lt-leb a n (omega (arith, ltb-true))) (rest e)
    one rest false true u v d f g h e =
        rw (lt-leb n b (omega (arith, ltb-true))) (pick_same (leb a n) (lookup other n more) ∙ rest e)
    one rest false false true true d f g h e =
        rw (le-leb a n (omega (arith, leb-true)), le-leb n b (omega (arith, leb-true))) (cc)
    one rest false false true false d f g h e = cc
    one rest false false false v d f g h e = cc

  whole : (t : List (Range A)) → over other low high t ≡ all r → lookup other n t ≡ r
  whole [] e = cc
  whole ((a to b is value) ∷ more) e =
      one a b value more (over other low high more) (whole more)
      (ltb high a) (ltb b low) (leb a low) (leb high b) refl refl refl refl e

-- a function that looks its number up in a table
pub record Tabled {A : Type 0} (other : A) (t : List (Range A)) (f : ℕ → A) : Type 0 where
  pub same : (n : ℕ) → f n ≡ lookup other n t

-- on an interval of one verdict the function has that value; `around`, on an interval without one
-- number inside it
module _ {A : Type 0} {other : A} {t : List (Range A)} {f : ℕ → A} (table : Tabled other t f) where
  pub on : (low high : ℕ) {r : A} {n : ℕ} → over other low high t ≡ all r → low ≤ n → n ≤ high
      → r ≡ f n
  on low high {r} {n} e p q = sym (table.same n ∙ whole other r low high n p q t e)

  pub around :
      (low k high : ℕ) {r : A} {n : ℕ} → over other low (k - 1) t ≡ all r →
      over other (k + 1) high t ≡ all r → low ≤ n → (n ≡ k → ⊥) → n ≤ high → r ≡ f n
  around low k high {r} {n} d e p ne q = side (ltb n k) refl
    where
      side : (u : Bool) → ltb n k ≡ u → r ≡ f n
      side true h = on low (k - 1) d p (omega (arith, ltb-true))
      side false h = on (k + 1) high e (omega (arith, ltb-false)) q

-- every range ends before the number
abbrev pub ended : {A : Type 0} → ℕ → List (Range A) → Bool
ended k [] = true
ended k ((a to b is value) ∷ more) = ltb b k && ended k more

-- then the table says nothing of it, nor of any number behind it
pub past : {A : Type 0} (other : A) (k n : ℕ) (t : List (Range A)) → T (ended k t) → k ≤ n
    → lookup other n t ≡ other
past other k n [] over behind = refl
past other k n ((a to b is value) ∷ more) over behind =
    let before = ltb→lt b k (and_yes (ltb b k) (ended k more) over).0 in
    rw (lt-leb n b (omega arith))
    (pick_same (leb a n) (lookup other n more)
    ∙ past other k n more (and_yes (ltb b k) (ended k more) over).1 behind)
