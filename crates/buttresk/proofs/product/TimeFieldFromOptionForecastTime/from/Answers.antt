-- `from` of `TimeField` meets its contract: there is a time, or there is none.
use Rattle.buttresk.specs.Product.{time_field}
use Rattle.buttresk.proofs.product.TimeFieldFromOptionForecastTime.from.Goals as goal

pub returns-in-Some : goal.returns-in-Some
unfolding time_field
returns-in-Some c = rw c.in-Some.is

pub returns-in-None : goal.returns-in-None
unfolding time_field
returns-in-None c = rw c.in-None.is
