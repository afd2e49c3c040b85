-- `octets::be32` meets its contract: it is the number of 4 octets.
use mathlib.Core.Path.{ap, ◌∙◌}
use native.Mathlib.Omega.{arith}
use borrow.Author.Rules.{rules}
use Rattle.octets.specs.BigEndian.{be_at}
use Rattle.octets.proofs.Laws.{at_width}
use Rattle.octets.proofs.be32.Goals as goal

pub overflow_cast-result : goal.overflow_cast-result
overflow_cast-result c = omega (arith, at_width 4 c.big_endian.ensures.1 (search rules))

pub returns : goal.returns
returns c = c.big_endian.ensures.0 ∙ ap (be_at _ 0) (search rules)
