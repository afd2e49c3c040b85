-- `section_at` meets its contract: the fields are as they are given, and the sum is in range.
use mathlib.Core.Path.{refl}
use Rattle.framing.specs.Framing.{framed}
use Rattle.framing.proofs.read.section_at.Goals as goal

pub returns : goal.returns
unfolding framed
returns c = refl
