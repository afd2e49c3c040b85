-- `offsets_by` meets its contract: the row, or what the Manual makes of it.
use mathlib.Core.Path.{◌∙◌}
use Rattle.products.specs.Readings.{by_reading}
use Rattle.products.specs.Rows.{offsets_by}
use Rattle.products.proofs.templates.offsets_by.Goals as goal

pub returns-in-AsCrate : goal.returns-in-AsCrate
unfolding offsets_by by_reading
returns-in-AsCrate c = rw c.in-AsCrate.is c.row_of-as_crate.ensures

pub returns-in-ByManual : goal.returns-in-ByManual
unfolding offsets_by
returns-in-ByManual c = c.by_manual.ensures ∙ rw (c.in-ByManual.is, c.row_of-as_crate.ensures)
