-- `by_manual` meets its contract: at 44 and at 47 by computing, and elsewhere nothing is corrected.
use mathlib.Core.Path.{sym}
use Rattle.products.specs.Readings.{processes_by_manual, widths_by_manual, by_reading}
use Rattle.products.proofs.Readings.{elsewhere}
use Rattle.products.proofs.templates.by_manual.Goals as goal

pub returns-in-44 : goal.returns-in-44
unfolding by_reading processes_by_manual widths_by_manual
returns-in-44 c = rw c.in-44.is

pub returns-in-47 : goal.returns-in-47
unfolding by_reading processes_by_manual widths_by_manual
returns-in-47 c = rw c.in-47.is

pub returns-in_default : goal.returns-in_default
returns-in_default c = sym (elsewhere _ _ (search) (search))
