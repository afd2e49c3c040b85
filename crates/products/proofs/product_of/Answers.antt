-- `product_of` meets its contract: the code's table is the list of rows, and by that a product is what
-- the ranges say.
use mathlib.Core.Path.{◌∙◌}
use Rattle.products.specs.Rows.{rows}
use Rattle.products.proofs.Rows.{product_by_the_table}
use Rattle.products.proofs.product_of.Goals as goal

pub returns : goal.returns
unfolding rows
returns c = c.product_by.ensures ∙ product_by_the_table _ _
