-- `writes::read_plan` meets its contract: every number that was passed is what its octets write.
use Rattle.std.proofs.Common.{◌≡◌, ℕ, ◌*◌, ◌<◌, get_or}
use Rattle.octets.specs.BigEndian.{be_at}
use Rattle.replaying.proofs.writes.read_plan.Given as goal

abbrev pub invariant-loop-i : goal.invariant-loop-i
invariant-loop-i l = (k : ℕ) → k < l.i → get_or l.plan k 0 ≡ be_at l.rows (k * 8) 8
