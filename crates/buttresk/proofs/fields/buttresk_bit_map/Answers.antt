-- `buttresk_bit_map` meets its contract: the section has its fields, or it has none.
use Rattle.buttresk.specs.Fields.{bit_map_fields}
use Rattle.buttresk.proofs.fields.buttresk_bit_map.Goals as goal

pub returns-in_default : goal.returns-in_default
unfolding bit_map_fields
returns-in_default c = rw (← c.from_payload.ensures, c.in_default.is)

pub returns : goal.returns
unfolding bit_map_fields
returns c = rw (← c.from_payload.ensures, c.in-Some.is)
