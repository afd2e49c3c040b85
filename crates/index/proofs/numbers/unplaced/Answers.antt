-- `unplaced` meets its contract: its parts are the numbers that it is given, and zeros.
use mathlib.Core.Path.{refl}
use Rattle.index.specs.Numbers.{unplaced}
use Rattle.index.proofs.numbers.unplaced.Goals as goal

pub returns : goal.returns
unfolding unplaced
returns c = refl
