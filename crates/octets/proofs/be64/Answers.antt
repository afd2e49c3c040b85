-- `octets::be64` meets its contract: it is the number of 8 octets.
use mathlib.Core.Path.{ap, ◌∙◌}
use borrow.Author.Rules.{rules}
use Rattle.octets.specs.BigEndian.{be_at}
use Rattle.octets.proofs.be64.Goals as goal

pub returns : goal.returns
returns c = c.big_endian.ensures.0 ∙ ap (be_at _ 0) (search rules)
