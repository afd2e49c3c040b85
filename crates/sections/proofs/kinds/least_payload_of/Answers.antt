-- `least_payload_of` meets its contract, by the cases of the kind and of its size.
use mathlib.Core.Path.{sym, ◌∙◌}
use Rattle.sections.specs.Kinds.{least_payload_of}
use Rattle.sections.proofs.kinds.least_payload_of.Goals as goal

pub returns-in_default : goal.returns-in_default
unfolding least_payload_of
returns-in_default c = rw (sym c.kind_of.ensures ∙ c.in_default.is)

pub returns-in-LeastPayload : goal.returns-in-LeastPayload
unfolding least_payload_of
returns-in-LeastPayload c = rw (sym c.kind_of.ensures ∙ c.in-Some.is, c.in-LeastPayload.is)

pub returns-in-WholeSize : goal.returns-in-WholeSize
unfolding least_payload_of
returns-in-WholeSize c = rw (sym c.kind_of.ensures ∙ c.in-Some.is, c.in-WholeSize.is)
