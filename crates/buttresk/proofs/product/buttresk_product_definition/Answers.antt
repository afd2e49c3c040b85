-- `buttresk_product_definition` meets its contract: the number names a reading, or it names none.
use mathlib.Core.Path.{sym, ◌∙◌}
use Rattle.buttresk.specs.Product.{fields_by, product_fields}
use Rattle.buttresk.proofs.product.buttresk_product_definition.Goals as goal

pub returns-in_default : goal.returns-in_default
unfolding product_fields fields_by
returns-in_default c =
    c.product_fields.ensures
    ∙ rw (sym c.reading_of.ensures, c.in_default.is)

pub returns : goal.returns
unfolding product_fields fields_by
returns c =
    c.product_fields-2.ensures
    ∙ rw (
      sym c.reading_of.ensures,
      c.in-Some.is,
      c.product_of.ensures,
      c.from_payload.ensures,
    )
