use Rattle.framing.specs.Framing.{framed}
use Rattle.framing.proofs.read.refuse.Goals as goal

pub returns : goal.returns
unfolding framed
returns c = c.without.ensures
