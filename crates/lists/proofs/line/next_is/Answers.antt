-- `next_is` meets its contract: behind the end, or the test of the octet.
use mathlib.Core.Path.{sym}
use Rattle.lists.proofs.Places.{next_inside, next_behind}
use Rattle.lists.proofs.line.next_is.Goals as goal

pub returns-then-text-at : goal.returns-then-text-at
returns-then-text-at c = sym (next_behind _ _ _ c.if-text-at.true)

pub returns : goal.returns
returns c = sym (next_inside _ _ _ c.if-text-at.false)
