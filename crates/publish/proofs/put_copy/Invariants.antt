-- `put_copy` meets its contract: the copy stands up to the cursor, and at the end up to the file's.
use Prim.Native.Nat.{◌-◌}
use lib.ListN.{length}
use Rattle.publish.proofs.Copies.{Copying}
use Rattle.publish.proofs.put_copy.Given as goal

abbrev pub invariant-loop-section : goal.invariant-loop-section
invariant-loop-section l = Copying l.file l.initial.dest l.reading l.done l.dest

abbrev pub decreases-loop-section : goal.decreases-loop-section
decreases-loop-section l = length l.file - l.reading.cursor.at.0
