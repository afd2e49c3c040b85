-- Sections that are laid out from a place on are determined, one after the other.
use Prim.Native.Nat.{ℕ, ◌+◌, ◌≤◌, ◌<◌}
use native.Mathlib.Omega.{arith}
use mathlib.Core.Path.{◌≡◌, refl, sym, ap, ap₂, subst, subst₂, ◌∙◌}
use mathlib.Core.List.{List, [], ◌∷◌}
use Rattle.octets.specs.Words.{Not}
use Rattle.octets.specs.BigEndian.{be_at}
use Rattle.framing.specs.LaidOut.{
  Spells,
  FirstGrib,
  section_of,
  stated_length,
  stated_number,
  LaidOut,
  indicator_next,
  end_next,
  headed_next,
  OneLayout,
}
use Rattle.framing.specs.declared.read.Section.{Section}

-- there is one first "GRIB"
pub one_grib : (file : List ℕ) (at g h : ℕ) → FirstGrib file at g → FirstGrib file at h → g ≡ h
one_grib file at g h (low, there, none) (low', there', none') =
    let a : Not (g < h) = λ less. none' g low less there in let b : Not (h < g) = λ less. none h low' less there' in omega arith

module _ (file : List ℕ) where
  -- the first of a list that is laid out
  pub data First (at rest : ℕ) (s : Section) (more : List Section) : Type 0 where
    zeroth : (g later : ℕ) → rest ≡ 0 → FirstGrib file at g → 16 + later ≡ be_at file (g + 8) 8 → s ≡ section_of 0 g 16
        → LaidOut file (g + 16) later more → First at rest s more
    eighth : rest ≡ 4 → Spells file at 55 55 55 55 → s ≡ section_of 8 at 4 → LaidOut file (at + 4) 0 more → First at rest s more
    other : (later : ℕ) → Not (rest ≡ 0) → Not (rest ≡ 4) → 1 ≤ stated_number file at → stated_length file at + later ≡ rest
        → s ≡ section_of (stated_number file at) at (stated_length file at) → LaidOut file (at + stated_length file at) later more
        → First at rest s more

  pub first : {at rest : ℕ} {s : Section} {more : List Section} → LaidOut file at rest (s ∷ more) → First at rest s more
  first (indicator_next {at} {g} {rest} found total l) = zeroth g rest refl found total refl l
  first (end_next sevens l) = eighth refl sevens refl l
  first (headed_next {at} {rest} {later} a b number inside taken l) = other later a b number.0 taken refl l

  -- two of them are the same, and so are the lists behind
  same_first : (at rest : ℕ) (s t : Section) (more others : List Section)
      → ((at' rest' : ℕ) → LaidOut file at' rest' more → LaidOut file at' rest' others → more ≡ others)
      → First at rest s more → First at rest t others → s ∷ more ≡ t ∷ others
  same_first at rest s t more others later (zeroth g left z found total e l) (zeroth h left' z' found' total' e' l') =
      let place = one_grib file at g h found found' in
      let sum : left ≡ left' = let k = ap (λ (x : ℕ). be_at file (x + 8) 8) place in omega arith in
      ap₂ (λ (x : Section) (m : List Section). x ∷ m) (e ∙ ap (λ (x : ℕ). section_of 0 x 16) place ∙ sym e')
      (later (h + 16) left' (subst₂ (λ (x y : ℕ). LaidOut file (x + 16) y more) place sum l) l')
  same_first at rest s t more others later (eighth z w e l) (eighth z' w' e' l') =
      ap₂ (λ (x : Section) (m : List Section). x ∷ m) (e ∙ sym e') (later (at + 4) 0 l l')
  same_first at rest s t more others later (other left a b n taken e l) (other left' a' b' n' taken' e' l') =
      let sum : left ≡ left' = omega arith in
      ap₂ (λ (x : Section) (m : List Section). x ∷ m) (e ∙ sym e')
      (later _ left' (subst (λ (x : ℕ). LaidOut file (at + stated_length file at) x more) sum l) l')
  same_first at rest s t more others later (zeroth g left z found total e l) (eighth z' w' e' l') = absurd (omega arith)
  same_first at rest s t more others later (zeroth g left z found total e l) (other left' a' b' n' taken' e' l') = absurd (a' z)
  same_first at rest s t more others later (eighth z w e l) (zeroth h left' z' found' total' e' l') = absurd (omega arith)
  same_first at rest s t more others later (eighth z w e l) (other left' a' b' n' taken' e' l') = absurd (b' z)
  same_first at rest s t more others later (other left a b n taken e l) (zeroth h left' z' found' total' e' l') = absurd (a z')
  same_first at rest s t more others later (other left a b n taken e l) (eighth z' w' e' l') = absurd (b z')

pub one_layout : OneLayout
one_layout file at rest [] [] a b e = refl
one_layout file at rest [] (t ∷ others) a b e = absurd (omega arith)
one_layout file at rest (s ∷ some) [] a b e = absurd (omega arith)
one_layout file at rest (s ∷ some) (t ∷ others) a b e =
    same_first file at rest s t some others (λ at' rest' l l'. one_layout file at' rest' some others l l' (omega arith)) (first file a)
    (first file b)
