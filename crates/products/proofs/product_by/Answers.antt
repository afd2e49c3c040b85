-- `product_by` meets its contract: with no supported template every field is none, else each is what
-- its index says.
use Rattle.std.specs.Prelude.{Option, Some, None}
use Prim.Native.Nat.{ℕ}
use borrow.Author.Rules.{rules}
use mathlib.Core.Path.{◌≡◌, sym, ◌∙◌}
use mathlib.Core.List.{List}
use Rattle.products.specs.Rows.{offsets_by}
use Rattle.products.specs.Products.{
  octet_of,
  time_of,
  surfaces_of,
  supported_of,
  by_index,
  category_of,
  parameter_of,
  process_at,
  time_at,
  surfaces_at,
  product_by,
}
use Rattle.products.specs.declared.templates.TemplateReading.{TemplateReading}
use Rattle.products.specs.declared.templates.Offsets.{Offsets}
use Rattle.products.specs.declared.Product.{Product}
use Rattle.products.proofs.product_by.Goals as goal
use Rattle.products.specs.declared.FixedSurface.{FixedSurface}
use Rattle.products.specs.declared.ForecastTime.{ForecastTime}

abbrev product : Option ℕ → Option ℕ → Option ℕ → Option ForecastTime → Option (FixedSurface × FixedSurface) → Product
product category number process time surfaces =
    record {
      category = category;
      number = number;
      process = process;
      time = time;
      surfaces = surfaces;
    }

module _ (lent : List ℕ) (reading : TemplateReading) (s : List ℕ) where
  none : supported_of s ≡ None
      → product None None None None None ≡ product_by lent reading s
  unfolding product_by category_of parameter_of
  none e = rw e

  all : (n : ℕ) (offsets : Offsets) (category number process : Option ℕ) (time : Option ForecastTime)
      (surfaces : Option (FixedSurface × FixedSurface))
      → supported_of s ≡ Some n → offsets ≡ offsets_by lent reading n
      → category ≡ by_index None octet_of s (Some 0) → number ≡ by_index None octet_of s (Some 1)
      → process ≡ process_at s offsets → time ≡ time_at s offsets → surfaces ≡ surfaces_at s offsets
      → product category number process time surfaces ≡ product_by lent reading s
  unfolding product_by category_of parameter_of
  all n offsets category number process time surfaces e o c m p t f = rw (e, c, m, p, t, f, o)

pub returns-in_default : goal.returns-in_default
returns-in_default c = none _ _ _ (sym c.supported_of.ensures ∙ c.in_default.is)

pub returns : goal.returns
returns c =
    all _ _ _ _ _ _ _ _ _ _
    (sym c.supported_of.ensures ∙ c.in-Some.is)
    c.offsets_by-offsets.ensures
    (c.field_at-category.ensures octet_of (λ octets answer e. search rules))
    (c.field_at-number.ensures octet_of (λ octets answer e. search rules))
    (c.field_at.ensures octet_of (λ octets answer e. search rules))
    (c.field_at-2.ensures (time_of _) (λ octets answer e. search rules))
    (c.field_at-3.ensures surfaces_of (λ octets answer e. search rules))
