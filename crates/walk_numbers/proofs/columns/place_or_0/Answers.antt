-- `place_or_0` meets its contract: there is a place, or there is none.
use Rattle.walk_numbers.specs.Numbers.{place_or_0}
use Rattle.walk_numbers.proofs.columns.place_or_0.Goals as goal

pub returns-in-None : goal.returns-in-None
unfolding place_or_0
returns-in-None c = rw c.in-None.is

pub returns-in-Some : goal.returns-in-Some
unfolding place_or_0
returns-in-Some c = rw c.in-Some.is
