-- `product_fields` meets its contract: each field is what the library says, in numbers, where there
-- is a definition and where there is none.
use Rattle.buttresk.specs.Product.{definition_fields, fields_of}
use Rattle.buttresk.proofs.product.product_fields.Goals as goal
use Rattle.buttresk.proofs.product.product_fields.Goals.{in-Some, in-None}

pub returns : goal.returns
unfolding definition_fields fields_of
returns c =
    rw (
      c.from-5.ensures,
      c.from-4.ensures,
      c.from-3.ensures,
      c.from-2.ensures,
      c.from.ensures,
    )
    (elim c.match-definition.branch [
      | in-Some w ↦ rw (w.known-is, w.in-Some.is)
      | in-None w ↦ rw (w.known-is, w.in-None.is)
    ])
