-- `from` of `WhenWhereFields` meets its contract: time and surfaces are what the library says, in
-- numbers.
use Rattle.buttresk.specs.Product.{when_where_numbers}
use Rattle.buttresk.proofs.product.WhenWhereFieldsFromWhenWhere.from.Goals as goal

pub returns : goal.returns
unfolding when_where_numbers
returns c = rw (c.from-2.ensures, c.from.ensures)
