-- `grib_at` meets its contract: the word stands there or not.
use Rattle.framing.specs.Search.{grib_at}
use Rattle.framing.proofs.search.grib_at.Goals as goal

pub returns-then-says : goal.returns-then-says
unfolding grib_at
returns-then-says c = simp (← c.says.ensures, c.if-says.true)

pub returns : goal.returns
unfolding grib_at
returns c = simp (← c.says.ensures, c.if-says.false)
