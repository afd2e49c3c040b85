use Rattle.framing.specs.Framing.{framed}
use Rattle.framing.proofs.read.over.Goals as goal

pub returns : goal.returns
unfolding framed
returns c = c.without.ensures
