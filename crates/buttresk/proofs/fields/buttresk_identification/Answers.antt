-- `buttresk_identification` meets its contract: the section has its fields, or it has none.
use mathlib.Core.Path.{◌∙◌}
use Rattle.buttresk.specs.Fields.{identification_fields}
use Rattle.buttresk.proofs.fields.buttresk_identification.Goals as goal

pub returns-in_default : goal.returns-in_default
unfolding identification_fields
returns-in_default c = c.no_identification.ensures ∙ rw (← c.from_payload.ensures, c.in_default.is)

pub returns : goal.returns
unfolding identification_fields
returns c = rw (← c.from_payload.ensures, c.in-Some.is)
