-- `buttresk_grid_definition` meets its contract: the section has its fields, or it has none.
use Rattle.buttresk.specs.Fields.{grid_fields}
use Rattle.buttresk.proofs.fields.buttresk_grid_definition.Goals as goal

pub returns-in_default : goal.returns-in_default
unfolding grid_fields
returns-in_default c = rw (← c.from_payload.ensures, c.in_default.is)

pub returns : goal.returns
unfolding grid_fields
returns c = rw (← c.from_payload.ensures, c.in-Some.is)
