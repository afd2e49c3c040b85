-- `values_of` meets its contract, by the cases of the kind.
use mathlib.Core.Path.{sym, ◌∙◌}
use Rattle.sections.specs.Kinds.{values_of}
use Rattle.sections.proofs.kinds.values_of.Goals as goal

pub returns-in-Some : goal.returns-in-Some
unfolding values_of
returns-in-Some c = rw (sym c.kind_of.ensures ∙ c.in-Some.is)

pub returns-in-None : goal.returns-in-None
unfolding values_of
returns-in-None c = rw (sym c.kind_of.ensures ∙ c.in-None.is)
