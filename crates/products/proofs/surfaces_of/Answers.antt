-- `surfaces_of` meets its contract, by the cases of its two surfaces.
use mathlib.Core.Path.{sym, ◌∙◌}
use Rattle.products.specs.Products.{surfaces_of}
use Rattle.products.proofs.surfaces_of.Goals as goal

pub returns-in_default : goal.returns-in_default
unfolding surfaces_of
returns-in_default c = rw (sym c.surface_of.ensures ∙ c.in_default.is)

pub returns-in_default-surface_of : goal.returns-in_default-surface_of
unfolding surfaces_of
returns-in_default-surface_of c =
    rw (
      sym c.surface_of.ensures ∙ c.in-Some.is,
      ← c.from.ensures,
      ← c.surface_of-2.ensures,
      c.in_default-surface_of.is,
    )

pub returns : goal.returns
unfolding surfaces_of
returns c =
    rw (
      sym c.surface_of.ensures ∙ c.in-Some.is,
      ← c.from.ensures,
      ← c.surface_of-2.ensures,
      c.in-Some-surface_of.is,
    )
