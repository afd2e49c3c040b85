-- What `step` keeps from each section on, and what is left of the file.
use Prim.Native.Nat.{◌-◌}
use lib.ListN.{length}
use Rattle.walk.proofs.Steps.{Stepping}
use Rattle.walk.proofs.lines.step.Given as goal

abbrev pub invariant-loop-section : goal.invariant-loop-section
invariant-loop-section l =
    Stepping l.file l.initial.rows l.lines l.room l.fn.before l.at l.span l.local l.places l.rows

abbrev pub decreases-loop-section : goal.decreases-loop-section
decreases-loop-section l = length l.file - l.at.reading.cursor.at.0
