-- What a payload of octets says: numbers of one octet, and a time of at most four.
use Rattle.std.specs.Prelude.{Option, Some, None, ℤ}
use Prim.Native.Nat.{ℕ, ◌+◌, ◌≤◌}
use native.Mathlib.Omega.{arith}
use mathlib.Core.Path.{◌≡◌, refl, subst}
use mathlib.Core.Bool.{Bool, true, false}
use mathlib.Core.List.{List}
use lib.Dec.{ltb}
use lib.ListN.{length, get_or, take, drop}
use lib.Seq.{get_or-drop}
use Rattle.octets.specs.Words.{pick}
use Rattle.octets.specs.Signed.{signed_of}
use Rattle.octets.proofs.Laws.{be_lt}
use Rattle.products.specs.Products.{
  supported_of,
  octet_of,
  time_of,
  surface_of,
  surfaces_of,
  by_template,
  by_index,
  category_of,
  parameter_of,
  forecast_of,
  fixed_of,
}
use Rattle.products.specs.Readings.{octets_in, offsets_of}
use Rattle.products.specs.declared.templates.TimeOctets.{TimeOctets}
use Rattle.products.specs.declared.templates.TimeOctets.TheVariants.{Two, Four}
use Rattle.products.specs.declared.templates.TemplateReading.{TemplateReading}
use Rattle.products.specs.declared.ForecastTime.{ForecastTime}
use Rattle.products.specs.declared.FixedSurface.{FixedSurface}

abbrev pub Octets : List ℕ → Type 0
Octets l = (i : ℕ) → get_or l i 0 ≤ 255

octets_drop : (n : ℕ) (s : List ℕ) → Octets s → Octets (drop n s)
octets_drop n s octets i = rw (get_or-drop n s i 0) (octets (n + i))

-- of both answers of a test
either : {A : Type 0} (In : A → Type 0) (t : Bool) {a b : A} → In a → In b → In (pick t a b)
either In true p q = p
either In false p q = q

-- by the template, at an index
module _ {A : Type 0} (In : A → Type 0) {none : A} (fine : In none) {f : ℕ → List ℕ → A}
    (so : (n : ℕ) (s : List ℕ) → Octets s → In (f n s)) (s : List ℕ) (octets : Octets s) where
  at_index : (n : ℕ) (i : Option ℕ) → In (by_index none (f n) s i)
  at_index n (Some i) = so n (drop i (drop 4 s)) (octets_drop i (drop 4 s) (octets_drop 4 s octets))
  at_index n None = fine

  by_template_lem : (index : ℕ → Option ℕ) (t : Option ℕ)
      → In (by_template none (λ n. by_index none (f n) s (index n)) t)
  by_template_lem index (Some n) = at_index n (index n)
  by_template_lem index None = fine

module _ (In : Option ℕ → Type 0) (fine : In None)
    (octet : (n : ℕ) → n ≤ 255 → In (Some n)) where
  octet_within : (s : List ℕ) → Octets s → In (octet_of s)
  unfolding octet_of
  octet_within s octets = either In (ltb (length s) 1) fine (octet (get_or s 0 0) (octets 0))

  pub category_within : (s : List ℕ) → Octets s → In (category_of s)
  unfolding category_of
  category_within s octets =
      by_template_lem In fine (λ n. octet_within) s octets (λ n. Some 0) (supported_of s)

  pub parameter_within : (s : List ℕ) → Octets s → In (parameter_of s)
  unfolding parameter_of
  parameter_within s octets =
      by_template_lem In fine (λ n. octet_within) s octets (λ n. Some 1) (supported_of s)

module _ (In : Option ForecastTime → Type 0) (fine : In None)
    (time : (t : ForecastTime) → t.unit ≤ 255 → t.time ≤ 4294967295 → In (Some t)) where
  time_within : (width : TimeOctets) (s : List ℕ) → Octets s → In (time_of width s)
  unfolding time_of octets_in
  time_within Two s octets =
      either In (ltb (length s) 3) fine
      (time _ (octets 0) (omega (arith, be_lt s 1 (λ i. omega (arith, octets i)) 2)))
  time_within Four s octets =
      either In (ltb (length s) 5) fine
      (time _ (octets 0) (omega (arith, be_lt s 1 (λ i. omega (arith, octets i)) 4)))

  pub forecast_within : (reading : TemplateReading) (s : List ℕ) → Octets s
      → In (forecast_of reading s)
  unfolding forecast_of
  forecast_within reading s octets =
      by_template_lem In fine (λ n. time_within (offsets_of reading n).width) s octets
      (λ n. (offsets_of reading n).time) (supported_of s)

-- one surface
abbrev Within : Option FixedSurface → Type 0
Within (Some a) = a.surface ≤ 255
Within None = Unit

surface_within : (s : List ℕ) → Octets s → Within (surface_of s)
unfolding surface_of
surface_within s octets =
    by_signs (signed_of (take 1 (drop 1 s))) (signed_of (take 4 (drop 2 s))) refl refl
  where
    by_signs : (f v : Option ℤ) → signed_of (take 1 (drop 1 s)) ≡ f → signed_of (take 4 (drop 2 s)) ≡ v
        → Within (surface_of s)
    by_signs (Some f) (Some v) p q = rw (p, q) (either Within (ltb (length s) 6) tt (octets 0))
    by_signs (Some f) None p q = rw (p, q) (either Within (ltb (length s) 6) tt tt)
    by_signs None v p q = rw p (either Within (ltb (length s) 6) tt tt)

module _ (In : Option (FixedSurface × FixedSurface) → Type 0) (fine : In None)
    (pair : (a b : FixedSurface) → a.surface ≤ 255 → In (Some (a, b))) where
  surfaces_within : (s : List ℕ) → Octets s → In (surfaces_of s)
  unfolding surfaces_of
  surfaces_within s octets = by_both (surface_of s) (surface_of (drop 6 s)) refl refl
    where
      by_both : (a b : Option FixedSurface) → surface_of s ≡ a → surface_of (drop 6 s) ≡ b
          → In (surfaces_of s)
      by_both (Some a) (Some b) p q =
          rw (p, q) (pair a b (subst Within p (surface_within s octets)))
      by_both (Some a) None p q = rw (p, q) fine
      by_both None b p q = rw p fine

  pub fixed_within : (reading : TemplateReading) (s : List ℕ) → Octets s → In (fixed_of reading s)
  unfolding fixed_of
  fixed_within reading s octets =
      by_template_lem In fine (λ n. surfaces_within) s octets (λ n. (offsets_of reading n).surfaces)
      (supported_of s)
