-- `octet_of` meets its contract: there is an octet or not.
use borrow.Author.Tests.{lt-ltb, le-ltb}
use Rattle.products.specs.Products.{octet_of}
use Rattle.products.proofs.octet_of.Goals as goal

pub returns-then-s-lt1 : goal.returns-then-s-lt1
unfolding octet_of
returns-then-s-lt1 c = simp (lt-ltb _ _ c.if-s-lt1.true)

pub returns : goal.returns
unfolding octet_of
returns c = simp (le-ltb _ _ c.if-s-lt1.false)
