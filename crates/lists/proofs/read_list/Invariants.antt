-- `read_list` meets its contract. The loop's invariant: the lines up to `at` are read, and their
-- entries stand in the table.
use Prim.Native.Nat.{◌-◌}
use lib.ListN.{length}
use Rattle.lists.proofs.Turns.{Going}
use Rattle.lists.proofs.read_list.Given as goal

abbrev pub invariant-loop-at : goal.invariant-loop-at
invariant-loop-at l = Going l.text l.initial.table l.table l.read l.at

abbrev pub decreases-loop-at : goal.decreases-loop-at
decreases-loop-at l = length l.text - l.at
