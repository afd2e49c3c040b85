-- `supported_of` meets its contract, test by test.
use borrow.Author.Tests.{lt-ltb, le-ltb}
use Rattle.octets.specs.BigEndian.{be_at}
use Rattle.products.specs.Products.{supported_of}
use Rattle.products.proofs.supported_of.Goals as goal

pub returns-then-payload-lt-LEAST_PAYLOAD : goal.returns-then-payload-lt-LEAST_PAYLOAD
unfolding supported_of
returns-then-payload-lt-LEAST_PAYLOAD c = simp (lt-ltb _ _ c.if-payload-lt-LEAST_PAYLOAD.true)

pub returns-then-supported : goal.returns-then-supported
unfolding supported_of be_at
returns-then-supported c =
    simp (
      le-ltb _ _ c.if-payload-lt-LEAST_PAYLOAD.false,
      ← c.be16-template.ensures,
      ← c.supported.ensures,
      c.if-supported.true,
    )

pub returns-else-supported : goal.returns-else-supported
unfolding supported_of be_at
returns-else-supported c =
    simp (
      le-ltb _ _ c.if-payload-lt-LEAST_PAYLOAD.false,
      ← c.be16-template.ensures,
      ← c.supported.ensures,
      c.if-supported.false,
    )
