-- `is_local_or_grid` meets its contract.
use mathlib.Core.Path.{refl}
use Rattle.order.specs.Order.{judged, is_between, judged_read}
use Rattle.order.specs.declared.Order.TheVariants.{AfterIdentification}
use Rattle.reading.specs.Glance.{last_read, Usual}
use Rattle.reading.proofs.Fitting.{is_key, by_key}
use Rattle.reading.proofs.quick.is_local_or_grid.Goals as goal

pub returns-then-number-eq-NUMBER : goal.returns-then-number-eq-NUMBER
unfolding Usual judged_read judged is_between last_read
returns-then-number-eq-NUMBER c = λ e. is_key AfterIdentification _ 2 refl c.if-number-eq-NUMBER.true

pub returns : goal.returns
unfolding Usual judged_read judged is_between last_read
returns c = by_key AfterIdentification _ 3 refl
