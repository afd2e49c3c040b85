-- `judge` meets its contract: between messages a section 0 alone fits, and inside one the callee says.
use mathlib.Core.Path.{sym, ◌∙◌}
use Rattle.order.specs.Order.{judged, judged_read}
use Rattle.order.proofs.Laws.{is_between_lem}
use Rattle.order.proofs.judge.Goals as goal

pub returns-then-between_messages : goal.returns-then-between_messages
unfolding judged judged_read
returns-then-between_messages c = c.only.ensures ∙ rw (is_between_lem _ (sym c.between_messages.ensures ∙ c.if-between_messages.true))

pub returns : goal.returns
unfolding judged judged_read
returns c = c.judge_read.ensures ∙ rw (sym c.between_messages.ensures ∙ c.if-between_messages.false)
