-- `put_numbers` meets its contract. The loop keeps that the numbers so far are stored.
use mathlib.Core.Path.{◌≡◌}
use lib.ListN.{take}
use Rattle.standing.specs.Put.{put_at}
use Rattle.standing.proofs.put_numbers.Given as goal

abbrev pub invariant-loop-i : goal.invariant-loop-i
invariant-loop-i l = l.table ≡ put_at l.at (take l.i l.numbers) l.initial.table
