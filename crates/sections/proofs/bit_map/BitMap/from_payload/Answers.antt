-- `BitMap::from_payload` meets its contract: a payload is under the least or not.
use borrow.Author.Tests.{lt-ltb, le-ltb}
use Rattle.sections.specs.BitMap.{bit_map_of}
use Rattle.sections.proofs.bit_map.BitMap.from_payload.Goals as goal

pub returns-then-payload-lt-LEAST_PAYLOAD : goal.returns-then-payload-lt-LEAST_PAYLOAD
unfolding bit_map_of
returns-then-payload-lt-LEAST_PAYLOAD c = simp (lt-ltb _ _ c.if-payload-lt-LEAST_PAYLOAD.true)

pub returns : goal.returns
unfolding bit_map_of
returns c = simp (le-ltb _ _ c.if-payload-lt-LEAST_PAYLOAD.false)
