-- `when_and_where` meets its contract: with no supported template both are none, else each is what
-- the template's offsets say.
use Rattle.std.specs.Prelude.{Option, Some, None}
use Prim.Native.Nat.{ℕ}
use borrow.Author.Rules.{rules}
use mathlib.Core.Path.{◌≡◌, sym, ◌∙◌}
use mathlib.Core.List.{List}
use Rattle.products.specs.Readings.{offsets_of}
use Rattle.products.specs.Products.{
  time_of,
  surfaces_of,
  supported_of,
  time_at,
  surfaces_at,
  forecast_of,
  fixed_of,
  when_where_of,
}
use Rattle.products.specs.declared.templates.TemplateReading.{TemplateReading}
use Rattle.products.specs.declared.templates.Offsets.{Offsets}
use Rattle.products.specs.declared.WhenWhere.{WhenWhere}
use Rattle.products.proofs.when_and_where.Goals as goal
use Rattle.products.specs.declared.FixedSurface.{FixedSurface}
use Rattle.products.specs.declared.ForecastTime.{ForecastTime}

abbrev answer : Option ForecastTime → Option (FixedSurface × FixedSurface) → WhenWhere
answer time surfaces = record { time = time; surfaces = surfaces }

module _ (reading : TemplateReading) (s : List ℕ) where
  neither : supported_of s ≡ None → answer None None ≡ when_where_of reading s
  unfolding when_where_of forecast_of fixed_of
  neither e = rw e

  told : (n : ℕ) (offsets : Offsets) (time : Option ForecastTime) (surfaces : Option (FixedSurface × FixedSurface))
      → supported_of s ≡ Some n → offsets ≡ offsets_of reading n
      → time ≡ time_at s offsets → surfaces ≡ surfaces_at s offsets
      → answer time surfaces ≡ when_where_of reading s
  unfolding when_where_of forecast_of fixed_of
  told n offsets time surfaces e o t f = rw (e, t, f, o)

pub returns-in_default : goal.returns-in_default
returns-in_default c = neither _ _ (sym c.supported_of.ensures ∙ c.in_default.is)

pub returns : goal.returns
returns c =
    told _ _ _ _ _ _
    (sym c.supported_of.ensures ∙ c.in-Some.is)
    c.offsets_at-offsets.ensures
    (c.field_at.ensures (time_of _) (λ octets answer e. search rules))
    (c.field_at-2.ensures surfaces_of (λ octets answer e. search rules))
