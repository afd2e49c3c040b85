-- A rule of a list's entries: one test, computed entry by entry, and what it says at each of them.
-- And what stands at a place that a list has.
use mathlib.Core.Path.{◌≡◌, refl, ◌∙◌, subst, sym}
use mathlib.Core.Bool.{Bool, true, ◌&&◌}
use mathlib.Core.List.{List, [], ◌∷◌}
use Prim.Native.Nat.{ℕ, zero, suc, ◌+◌, ◌<◌}
use native.Mathlib.Nat.{add-zero, zero-add, add-suc, suc-add, le_of_suc-le-suc, not-suc-le-zero}
use lib.Dec.{T}
use lib.ListN.{length, get_or}
use mir.Facts.{and_yes}

-- the test passes at each entry, with the entry's place, counted from i
abbrev pub every : (ℕ → ℕ → Bool) → ℕ → List ℕ → Bool
every test i [] = true
every test i (x ∷ more) = test i x && every test (suc i) more

module _ (test : ℕ → ℕ → Bool) where
  from : (l : List ℕ) (i : ℕ) → T (every test i l) → (k : ℕ) → k < length l
      → T (test (i + k) (get_or l k 0))
  from [] i t k inside = absurd (not-suc-le-zero inside)
  from (x ∷ more) i t zero inside =
      subst (λ (m : ℕ). T (test m x)) (sym (add-zero i))
      (and_yes (test i x) (every test (suc i) more) t).0
  from (x ∷ more) i t (suc k) inside =
      subst (λ (m : ℕ). T (test m (get_or more k 0))) (suc-add i k ∙ sym (add-suc i k))
      (from more (suc i) (and_yes (test i x) (every test (suc i) more) t).1 k
      (le_of_suc-le-suc inside))

  pub at_each : (l : List ℕ) → T (every test 0 l) → (k : ℕ) → k < length l
      → T (test k (get_or l k 0))
  at_each l t k inside =
      subst (λ (m : ℕ). T (test m (get_or l k 0))) (zero-add k) (from l 0 t k inside)

-- what stands at a place of the list does not hang on what stands behind its end
pub inside_it : (l : List ℕ) (k : ℕ) (d e : ℕ) → k < length l → get_or l k d ≡ get_or l k e
inside_it [] k d e inside = absurd (not-suc-le-zero inside)
inside_it (x ∷ more) zero d e inside = refl
inside_it (x ∷ more) (suc k) d e inside = inside_it more k d e (le_of_suc-le-suc inside)
