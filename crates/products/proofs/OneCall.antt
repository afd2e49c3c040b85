-- When and where: what the product says, and on single payloads each by itself.
use Prim.Native.Nat.{ℕ}
use mathlib.Core.Path.{◌≡◌, refl, ap₂}
use mathlib.Core.List.{List, [], ◌∷◌}
use Rattle.octets.specs.BigEndian.{be_at}
use Rattle.octets.specs.Signed.{signed_of}
use Rattle.products.specs.Templates.{
  supported_templates,
  is_supported,
  processes,
  process_index,
  times,
  time_index,
  surfaces,
  surfaces_index,
}
use Rattle.products.specs.Readings.{
  processes_by_manual,
  widths_by_manual,
  octets_in,
  as_crate,
  by_reading,
  offsets_of,
}
use Rattle.products.specs.Products.{
  supported_of,
  time_of,
  surface_of,
  surfaces_of,
  forecast_of,
  fixed_of,
  when_where_of,
  product_of,
}
use Rattle.products.specs.Agreement.{two_surfaces}
use Rattle.products.specs.OneCall.{AsBefore, telling, EachByItself, WhenAndWhere}
use Rattle.products.specs.declared.templates.TemplateReading.{TemplateReading}
use Rattle.products.specs.declared.templates.TemplateReading.TheVariants.{AsCrate, ByManual}
use Rattle.products.specs.declared.WhenWhere.{WhenWhere}
use Rattle.products.proofs.Readings.{in_both, agreement}

-- two answers are one, if both their parts are
of_both_parts : (a b : WhenWhere) → a.time ≡ b.time → a.surfaces ≡ b.surfaces → a ≡ b
of_both_parts a b e f = ap₂ (λ t s. record { time = t; surfaces = s }) e f

as_before : AsBefore
unfolding when_where_of product_of
as_before =
    record {
      time = λ reading s. refl;
      surfaces = λ reading s. refl;
      readings = λ s ne. of_both_parts _ _ (agreement.time s ne) (agreement.surfaces s);
    }

each_by_itself : EachByItself
unfolding when_where_of be_at offsets_of as_crate by_reading processes_by_manual widths_by_manual octets_in
    process_index processes time_index times surfaces_index surfaces forecast_of fixed_of
    supported_of is_supported supported_templates time_of surfaces_of surface_of signed_of
each_by_itself =
    record {
      of_32 = by (telling 32 8 (1 ∷ 0 ∷ 0 ∷ 0 ∷ 6 ∷ two_surfaces)) refl refl;
      of_88 = by (telling 88 5 two_surfaces) refl refl;
      of_0 = by (telling 0 8 (1 ∷ 0 ∷ 0 ∷ 0 ∷ 6 ∷ two_surfaces)) refl refl;
      of_0_ended = by (telling 0 8 (1 ∷ 0 ∷ 0 ∷ 0 ∷ 6 ∷ 5 ∷ [])) refl refl;
      of_64 = by (telling 64 8 (1 ∷ 0 ∷ 0 ∷ 0 ∷ 6 ∷ two_surfaces)) refl refl;
      of_44_by_manual = refl;
      of_44_as_crate = refl;
    }
  where
    by : (s : List ℕ) {a : WhenWhere} → when_where_of AsCrate s ≡ a → when_where_of ByManual s ≡ a
        → (reading : TemplateReading) → when_where_of reading s ≡ a
    by s = in_both (λ (reading : TemplateReading). when_where_of reading s)

pub when_and_where : WhenAndWhere
when_and_where = record { as_before = as_before; each_by_itself = each_by_itself }
