-- `after_data` meets its contract: an 8 closes, and any other number is a submessage's start.
use mathlib.Core.Path.{◌∙◌}
use borrow.Author.Tests.{ne_eqb}
use Rattle.order.specs.Order.{judged}
use Rattle.order.proofs.after_data.Goals as goal

pub returns-then-number-eq-NUMBER : goal.returns-then-number-eq-NUMBER
unfolding judged
returns-then-number-eq-NUMBER c = rw c.if-number-eq-NUMBER.true

pub returns : goal.returns
unfolding judged
returns c = c.at_submessage_start.ensures ∙ simp (ne_eqb _ _ c.if-number-eq-NUMBER.false)
