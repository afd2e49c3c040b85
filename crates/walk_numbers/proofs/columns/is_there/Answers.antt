-- `is_there` meets its contract: there is a place, or there is none.
use Rattle.walk_numbers.specs.Numbers.{is_there}
use Rattle.walk_numbers.proofs.columns.is_there.Goals as goal

pub returns-in-Some : goal.returns-in-Some
unfolding is_there
returns-in-Some c = rw c.in-Some.is

pub returns-in-None : goal.returns-in-None
unfolding is_there
returns-in-None c = rw c.in-None.is
