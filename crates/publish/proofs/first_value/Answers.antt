-- `first_value` meets its contract: by where the sections with the number carry values.
use mathlib.Core.Path.{sym, ◌∙◌}
use native.Mathlib.Omega.{arith}
use Rattle.publish.proofs.Values.{from_6, begin_at, begin_past, begin_nowhere}
use Rattle.publish.proofs.first_value.Goals as goal

pub overflow_sub-result : goal.overflow_sub-result
overflow_sub-result c = omega (arith, from_6 c.args.number (sym c.values_of-values.ensures ∙ c.in-Some.is))

pub returns-then-first-octets-clause-from : goal.returns-then-first-octets-clause-from
returns-then-first-octets-clause-from c =
    begin_at _ _ (sym c.values_of-values.ensures ∙ c.in-Some.is)

pub returns-else-first-octets-clause-from : goal.returns-else-first-octets-clause-from
returns-else-first-octets-clause-from c =
    begin_past _ _ (sym c.values_of-values.ensures ∙ c.in-Some.is) c.if-first-octets.false

pub returns-in-None-clause-from : goal.returns-in-None-clause-from
returns-in-None-clause-from c = begin_nowhere _ _ (sym c.values_of-values.ensures ∙ c.in-None.is)
