-- `buttresk_representation` meets its contract: the section has its fields, or it has none.
use Rattle.buttresk.specs.Fields.{representation_fields}
use Rattle.buttresk.proofs.fields.buttresk_representation.Goals as goal

pub returns-in_default : goal.returns-in_default
unfolding representation_fields
returns-in_default c = rw (← c.from_payload.ensures, c.in_default.is)

pub returns : goal.returns
unfolding representation_fields
returns c = rw (← c.from_payload.ensures, c.in-Some.is)
