-- `GridDefinition::from_payload` meets its contract: a payload is under the least or not.
use borrow.Author.Tests.{lt-ltb, le-ltb}
use Rattle.octets.specs.BigEndian.{be_at}
use Rattle.sections.specs.GridDefinition.{grid_definition_of}
use Rattle.sections.proofs.grid_definition.GridDefinition.from_payload.Goals as goal

pub returns-then-payload-lt-LEAST_PAYLOAD : goal.returns-then-payload-lt-LEAST_PAYLOAD
unfolding grid_definition_of
returns-then-payload-lt-LEAST_PAYLOAD c = simp (lt-ltb _ _ c.if-payload-lt-LEAST_PAYLOAD.true)

pub returns : goal.returns
unfolding grid_definition_of be_at
returns c = simp (le-ltb _ _ c.if-payload-lt-LEAST_PAYLOAD.false, c.be32.ensures, c.be16.ensures)
