-- `first` meets its contract: the reading's start, and nothing told.
use Rattle.pull.specs.Calls.{first_of}
use Rattle.pull.proofs.first.Goals as goal

pub returns : goal.returns
unfolding first_of
returns c = rw (c.start.ensures, c.unlisted.ensures)
