-- The two readings: what they say of 44 and of 47, and that nothing else is corrected, so that they
-- agree everywhere else.
use Rattle.std.specs.Prelude.{Option, Some, None}
use Prim.Native.Nat.{ℕ}
use native.Mathlib.Omega.{arith}
use mathlib.Core.Path.{◌≡◌, refl, ap, subst}
use mathlib.Core.Bool.{Bool, true, false}
use mathlib.Core.List.{List, [], ◌∷◌}
use lib.Dec.{T, leb, ltb, eqb}
use lib.ListN.{length}
use borrow.Author.Tests.{leb-true}
use Rattle.octets.specs.Words.{pick, Not}
use Rattle.octets.specs.BigEndian.{be_at}
use Rattle.products.specs.Ranges.{◌to◌is◌, lookup}
use Rattle.octets.specs.Signed.{signed_of}
use Rattle.products.specs.Templates.{
  supported_templates,
  is_supported,
  processes,
  process_index,
  times,
  time_index,
  surfaces,
  surfaces_index,
}
use Rattle.products.specs.Readings.{
  processes_by_manual,
  widths_by_manual,
  octets_in,
  as_crate,
  by_reading,
  offsets_of,
}
use Rattle.products.specs.Products.{
  supported_of,
  octet_of,
  time_of,
  surface_of,
  surfaces_of,
  by_template,
  by_index,
  process_at,
  time_at,
  process_of,
  forecast_of,
  fixed_of,
  product_of,
}
use Rattle.products.specs.Agreement.{
  Agreement,
  dust,
  two_surfaces,
  At44,
  At47,
  WhereReadingsDiffer,
}
use Rattle.products.specs.declared.templates.TimeOctets.{TimeOctets}
use Rattle.products.specs.declared.templates.TimeOctets.TheVariants.{Four}
use Rattle.products.specs.declared.templates.TemplateReading.{TemplateReading}
use Rattle.products.specs.declared.templates.TemplateReading.TheVariants.{AsCrate, ByManual}
use Rattle.products.specs.declared.templates.Offsets.{Offsets}

-- of both readings, if of each
pub in_both : {A : Type 0} (f : TemplateReading → A) {a : A} → f AsCrate ≡ a → f ByManual ≡ a
    → (reading : TemplateReading) → f reading ≡ a
in_both f c m AsCrate = c
in_both f c m ByManual = m

-- numbers by which a width and an index are told from others
octets_of_lem : Offsets → ℕ
octets_of_lem o = octets_in o.width

process_of_lem : Option ℕ → ℕ
process_of_lem (Some i) = i
process_of_lem None = 0

-- what is said of 44 and of 47, and of payloads of theirs, is computed
pub at_44 : At44
unfolding be_at octets_of_lem offsets_of as_crate by_reading processes_by_manual widths_by_manual octets_in
    process_index processes time_index times surfaces_index surfaces forecast_of fixed_of
    supported_of is_supported supported_templates time_of surfaces_of surface_of signed_of
at_44 =
    record {
      by_manual = refl;
      as_crate = refl;
      differ = λ e. subst (λ (n : ℕ). T (eqb n 2)) (ap octets_of_lem e) tt;
      whole_by_manual = refl;
      whole_as_crate = refl;
      surfaces =
          in_both (λ (r : TemplateReading). fixed_of r (dust (0 ∷ 6 ∷ two_surfaces))) refl refl;
      ended_by_manual = refl;
      ended_as_crate = refl;
      ended_surfaces = in_both (λ (r : TemplateReading). fixed_of r (dust (0 ∷ 6 ∷ []))) refl refl;
      too_soon = in_both (λ (r : TemplateReading). forecast_of r (dust (0 ∷ []))) refl refl;
      without_sign = refl;
    }

pub at_47 : At47
unfolding be_at process_of_lem offsets_of as_crate by_reading processes_by_manual widths_by_manual process_index
    processes time_index times surfaces_index surfaces process_of supported_of is_supported
    supported_templates octet_of
at_47 =
    record {
      by_manual = refl;
      as_crate = refl;
      differ =
          λ e. subst (λ (n : ℕ). T (eqb n 15)) (ap (λ (o : Offsets). process_of_lem o.process) e) tt;
      long_by_manual = refl;
      long_as_crate = refl;
      short_by_manual = refl;
      short_as_crate = refl;
    }

-- a range of one number says nothing of another
beside : {A : Type 0} (other value : A) (k n : ℕ) → Not (n ≡ k)
    → lookup other n ((k to k is value) ∷ []) ≡ other
beside other value k n ne = side (leb k n) (leb n k) refl refl
  where
    side : (u v : Bool) → leb k n ≡ u → leb n k ≡ v → pick u (pick v value other) other ≡ other
    side true true d e = absurd (ne (omega (arith, leb-true)))
    side true false d e = refl
    side false v d e = refl

same_process : (other : Option ℕ) (n : ℕ) → Not (n ≡ 47) → lookup other n processes_by_manual ≡ other
unfolding processes_by_manual
same_process other n ne = beside other _ 47 n ne

same_width : (other : TimeOctets) (n : ℕ) → Not (n ≡ 44) → lookup other n widths_by_manual ≡ other
unfolding widths_by_manual
same_width other n ne = beside other _ 44 n ne

-- nothing else is corrected
pub elsewhere : (n : ℕ) (o : Offsets) → Not (n ≡ 44) → Not (n ≡ 47) → by_reading ByManual n o ≡ o
unfolding by_reading
elsewhere n o width process =
    rw (same_process o.process n process, same_width o.width n width)

-- two answers by a payload's template are one, if they are for its number
one_answer : {A : Type 0} (none : A) (f g : ℕ → A) (s : List ℕ) → f (be_at s 2 2) ≡ g (be_at s 2 2)
    → by_template none f (supported_of s) ≡ by_template none g (supported_of s)
unfolding supported_of
one_answer none f g s e = side (ltb (length s) 4) (is_supported (be_at s 2 2))
  where
    template : Bool → Bool → Option ℕ
    template t u = pick t None (pick u (Some (be_at s 2 2)) None)

    side : (t u : Bool) → by_template none f (template t u) ≡ by_template none g (template t u)
    side true u = refl
    side false true = e
    side false false = refl

-- the process hangs on the index alone, the time on its width
one_process : (s : List ℕ) → Not (be_at s 2 2 ≡ 47) → process_of ByManual s ≡ process_of AsCrate s
unfolding process_of offsets_of as_crate by_reading
one_process s ne =
    let n = be_at s 2 2 in
    one_answer None (λ m. process_at s (offsets_of ByManual m))
    (λ m. process_at s (offsets_of AsCrate m)) s
    (ap (by_index None octet_of s) (same_process (process_index n) n ne))

one_time : (s : List ℕ) → Not (be_at s 2 2 ≡ 44) → forecast_of ByManual s ≡ forecast_of AsCrate s
unfolding forecast_of offsets_of as_crate by_reading
one_time s ne =
    let n = be_at s 2 2 in
    one_answer None (λ m. time_at s (offsets_of ByManual m)) (λ m. time_at s (offsets_of AsCrate m)) s
    (ap (λ (w : TimeOctets). by_index None (time_of w) s (time_index n)) (same_width Four n ne))

pub agreement : Agreement
unfolding product_of fixed_of offsets_of by_reading
agreement =
    record {
      numbers = λ n width process. elsewhere n (as_crate n) width process;
      category = λ s. refl;
      number = λ s. refl;
      process = one_process;
      time = one_time;
      surfaces = λ s. refl;
    }

pub where_readings_differ : WhereReadingsDiffer
where_readings_differ = record { agreement = agreement; at_44 = at_44; at_47 = at_47 }
