-- `line_of` meets its contract: field by field what is in force.
use mathlib.Core.Path.{refl}
use Rattle.index.specs.Lines.{line_of}
use Rattle.index.proofs.line.line_of.Goals as goal

pub returns : goal.returns
unfolding line_of
returns c = refl
