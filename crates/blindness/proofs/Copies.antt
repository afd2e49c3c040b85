-- The octets of a public copy.
use Prim.Native.Nat.{ℕ, zero, suc, ◌+◌}
use native.Mathlib.Nat.{add-zero, zero-add}
use native.Mathlib.Omega.{arith}
use mathlib.Core.Path.{◌≡◌, refl, ap, ◌∙◌}
use mathlib.Core.Bool.{Bool, true, false}
use mathlib.Core.List.{List, [], ◌∷◌}
use lib.ListN.{length, get_or}
use Rattle.octets.specs.Words.{pick}
use Rattle.framing.specs.declared.read.Section.{Section}
use Rattle.index.specs.Bounds.{unlimited}
use Rattle.index.specs.Walk.{walked}
use Rattle.publish.specs.Values.{Terms, is_value, in_message}
use Rattle.publish.specs.Copy.{stays, blanked_from, public_copy}

module _ (keep : ℕ → Bool) where
  length_blanked : (i : ℕ) (f : List ℕ) → length (blanked_from keep i f) ≡ length f
  unfolding blanked_from
  length_blanked i [] = refl
  length_blanked i (x ∷ more) = ap suc (length_blanked (i + 1) more)

  octet_blanked : (i : ℕ) (f : List ℕ) (k : ℕ) → get_or (blanked_from keep i f) k 0 ≡ pick (keep (i + k)) (get_or f k 0) 0
  unfolding blanked_from
  octet_blanked i [] k = go (keep (i + k))
    where
      go : (t : Bool) → ◌≡◌ {A = ℕ} 0 (pick t 0 0)
      go true = refl
      go false = refl
  octet_blanked i (x ∷ more) zero = rw add-zero
  octet_blanked i (x ∷ more) (suc k) =
      let e : i + 1 + k ≡ i + suc k = omega arith in octet_blanked (i + 1) more k ∙ ap (λ (j : ℕ). pick (keep j) (get_or more k 0) 0) e

module _ (terms : Terms) (f : List ℕ) where
  -- the sections that the copy goes by
  abbrev pub listed_in : List Section
  listed_in = (walked unlimited f).sections

  pub length_copy : length (public_copy terms f) ≡ length f
  unfolding public_copy
  length_copy = length_blanked (stays terms f listed_in) 0 f

  pub octet_copy : (k : ℕ) → get_or (public_copy terms f) k 0 ≡ pick (stays terms f listed_in k) (get_or f k 0) 0
  unfolding public_copy
  octet_copy k = octet_blanked (stays terms f listed_in) 0 f k ∙ ap (λ (j : ℕ). pick (stays terms f listed_in j) (get_or f k 0) 0) (zero-add k)

  -- it keeps an octet of a message that is no value
  pub copy_keeps : (k : ℕ) → in_message f listed_in k ≡ true → is_value terms listed_in k ≡ false → get_or (public_copy terms f) k 0 ≡ get_or f k 0
  unfolding stays
  copy_keeps k a b = let s : stays terms f listed_in k ≡ true = rw (a, b) in octet_copy k ∙ rw s

  -- and has 0 where none stays
  pub copy_zeros : (k : ℕ) → stays terms f listed_in k ≡ false → get_or (public_copy terms f) k 0 ≡ 0
  copy_zeros k s = octet_copy k ∙ rw s

  -- so outside every message
  pub copy_blanks : (k : ℕ) → in_message f listed_in k ≡ false → get_or (public_copy terms f) k 0 ≡ 0
  unfolding stays
  copy_blanks k a = copy_zeros k (rw a)
