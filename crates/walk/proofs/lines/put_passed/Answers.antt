-- `put_passed` meets its contract: the row is stored, or nothing changes.
use mathlib.Core.Path.{◌∙◌}
use Rattle.walk.specs.Turns.{rows_after}
use Rattle.walk.proofs.lines.put_passed.Goals as goal

pub returns-then-passed : goal.returns-then-passed
unfolding rows_after
returns-then-passed c = c.put_row.ensures ∙ rw c.if-passed.true

pub returns-else-passed : goal.returns-else-passed
unfolding rows_after
returns-else-passed c = rw c.if-passed.false
