-- `outcome_of` meets its contract: what is still to be told ends as the whole does.
use Prim.Native.Nat.{◌-◌}
use lib.ListN.{length}
use Rattle.index.specs.Bounds.{unlimited}
use Rattle.index.specs.Walk.{walked}
use Rattle.publish.proofs.Turns.{Counting}
use Rattle.publish.proofs.outcome_of.Given as goal

abbrev pub invariant-loop-section : goal.invariant-loop-section
invariant-loop-section l = Counting (walked unlimited l.file).outcome l.file l.reading l.place l.last

abbrev pub decreases-loop-section : goal.decreases-loop-section
decreases-loop-section l = length l.file - l.reading.cursor.at.0
