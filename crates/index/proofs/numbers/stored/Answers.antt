-- `stored` meets its contract: a clean end, and the octets.
use Rattle.index.specs.Numbers.{stored}
use Rattle.index.proofs.numbers.stored.Goals as goal

pub returns : goal.returns
unfolding stored
returns c = rw c.end_of.ensures
