-- `tables::fill` meets its contract: every number that was passed is filled.
use Rattle.std.proofs.Common.{◌≡◌, ℕ, ◌<◌, get_or}
use Rattle.replaying.specs.Before.{number_before}
use Rattle.replaying.proofs.tables.fill.Given as goal

abbrev pub invariant-loop-i : goal.invariant-loop-i
invariant-loop-i l = (k : ℕ) → k < l.i → get_or l.table k 0 ≡ number_before k
