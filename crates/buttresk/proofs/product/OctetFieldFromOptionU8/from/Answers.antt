-- `from` of `OctetField` meets its contract: there is an octet, or there is none.
use Rattle.buttresk.specs.Product.{octet_field}
use Rattle.buttresk.proofs.product.OctetFieldFromOptionU8.from.Goals as goal

pub returns-in-Some : goal.returns-in-Some
unfolding octet_field
returns-in-Some c = rw c.in-Some.is

pub returns-in-None : goal.returns-in-None
unfolding octet_field
returns-in-None c = rw c.in-None.is
