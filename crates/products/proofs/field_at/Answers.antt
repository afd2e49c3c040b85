-- `field_at` meets its contract: the template has the index or not.
use Rattle.std.specs.Prelude.{None}
use borrow.Author.Rules.{rules}
use Rattle.products.proofs.Indices.{at_index}
use Rattle.products.proofs.field_at.Goals as goal

pub returns : goal.returns
returns g c =
    λ field reads.
    at_index None field c.args.payload.now _ _ _ _ _ c.in-Some.is c.from.ensures
    c.from-2.ensures (reads _ _ (search rules))
