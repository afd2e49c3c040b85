-- Where the loop of `walk` goes on the tables are kept, and where it has ended they are as they are meant to be.
use Rattle.walk.proofs.Turns.{Held, left_of}
use Rattle.walk.proofs.lines.walk.Given as goal

abbrev pub invariant-loop-t : goal.invariant-loop-t
invariant-loop-t l = Held l.file l.initial.rows l.initial.lines l.t l.rows l.lines

abbrev pub decreases-loop-t : goal.decreases-loop-t
decreases-loop-t l = left_of l.file l.t
