-- `over` meets its contract: a message is open or not.
use Rattle.reading.specs.Reading.{over_in}
use Rattle.reading.proofs.over.Goals as goal

pub returns-then-between_messages : goal.returns-then-between_messages
unfolding over_in
returns-then-between_messages c = simp (← c.between_messages.ensures, c.if-between_messages.true)

pub returns : goal.returns
unfolding over_in
returns c = simp (← c.between_messages.ensures, c.if-between_messages.false)
