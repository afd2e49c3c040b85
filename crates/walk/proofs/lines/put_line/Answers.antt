-- `put_line` meets its contract: the line is stored if it is due and has a place.
use mathlib.Core.Path.{sym}
use Rattle.walk.specs.Turns.{lines_after}
use Rattle.walk.proofs.Lists.{when_none, when_past}
use Rattle.walk.proofs.lines.put_line.Goals as goal

pub returns-then-slot-lines : goal.returns-then-slot-lines
unfolding lines_after
returns-then-slot-lines c = rw c.in-Some.is

pub returns-else-slot-lines : goal.returns-else-slot-lines
returns-else-slot-lines c = rw c.in-Some.is (sym (when_past _ _ _ c.if-slot-lines.false))

pub returns-in_default : goal.returns-in_default
returns-in_default c = sym (when_none c.args.due c.args.lines.now c.in_default.not-Some)
