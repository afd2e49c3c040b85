-- `offsets_at` meets its contract: the code's table is the list of rows, whose columns are what the
-- ranges say.
use mathlib.Core.Path.{◌∙◌}
use Rattle.products.specs.Rows.{rows}
use Rattle.products.proofs.Rows.{by_the_table}
use Rattle.products.proofs.templates.offsets_at.Goals as goal

pub returns : goal.returns
unfolding rows
returns c = c.offsets_by.ensures ∙ by_the_table _ _
