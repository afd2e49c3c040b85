-- `buttresk_indicator` meets its contract: the section has its fields, or it has none.
use Rattle.buttresk.specs.Fields.{indicator_fields}
use Rattle.buttresk.proofs.fields.buttresk_indicator.Goals as goal

pub returns-in_default : goal.returns-in_default
unfolding indicator_fields
returns-in_default c = rw (← c.from_section.ensures, c.in_default.is)

pub returns : goal.returns
unfolding indicator_fields
returns c = rw (← c.from_section.ensures, c.in-Some.is)
