-- `octets::be16` meets its contract: it is the number of 2 octets.
use mathlib.Core.Path.{ap, ◌∙◌}
use native.Mathlib.Omega.{arith}
use borrow.Author.Rules.{rules}
use Rattle.octets.specs.BigEndian.{be_at}
use Rattle.octets.proofs.Laws.{at_width}
use Rattle.octets.proofs.be16.Goals as goal

pub overflow_cast-result : goal.overflow_cast-result
overflow_cast-result c = omega (arith, at_width 2 c.big_endian.ensures.1 (search rules))

pub returns : goal.returns
returns c = c.big_endian.ensures.0 ∙ ap (be_at _ 0) (search rules)
