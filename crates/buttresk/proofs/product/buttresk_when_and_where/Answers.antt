-- `buttresk_when_and_where` meets its contract: the number names a reading, or it names none.
use mathlib.Core.Path.{sym, ◌∙◌}
use Rattle.buttresk.specs.Product.{when_where_by, when_where_fields}
use Rattle.buttresk.proofs.product.buttresk_when_and_where.Goals as goal

pub returns-in_default : goal.returns-in_default
unfolding when_where_fields when_where_by
returns-in_default c =
    c.from.ensures
    ∙ rw (sym c.reading_of.ensures, c.in_default.is)

pub returns : goal.returns
unfolding when_where_fields when_where_by
returns c =
    c.from-2.ensures
    ∙ rw (
      sym c.reading_of.ensures,
      c.in-Some.is,
      c.when_and_where.ensures,
    )
