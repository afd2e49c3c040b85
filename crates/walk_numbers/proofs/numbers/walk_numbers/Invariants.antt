-- `walk_numbers` keeps the tables from section to section, and each section leaves less of the file.
use Prim.Native.Nat.{◌-◌}
use lib.ListN.{length}
use Rattle.walk_numbers.proofs.InNumbers.{KeptAt}
use Rattle.walk_numbers.proofs.numbers.walk_numbers.Given as goal

abbrev pub invariant-loop-section : goal.invariant-loop-section
invariant-loop-section l = KeptAt l.file l.initial.rows l.initial.lines l.at l.span l.local l.places l.rows l.lines

abbrev pub decreases-loop-section : goal.decreases-loop-section
decreases-loop-section l = length l.file - l.at.reading.cursor.at.0
