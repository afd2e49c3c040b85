-- `put_lines` meets its contract: the lines so far are written, and those to come make up the rest.
use Prim.Native.Nat.{◌-◌}
use lib.ListN.{length}
use Rattle.inventory.proofs.Turns.{Listing}
use Rattle.inventory.proofs.lines.put_lines.Given as goal

abbrev pub invariant-loop-section : goal.invariant-loop-section
invariant-loop-section l = Listing l.file l.initial.text l.reading l.place l.last l.memory l.octets l.text

abbrev pub decreases-loop-section : goal.decreases-loop-section
decreases-loop-section l = length l.file - l.reading.cursor.at.0
