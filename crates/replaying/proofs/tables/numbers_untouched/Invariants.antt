-- `tables::numbers_untouched` meets its contract: every number that was passed is what it was.
use Rattle.std.proofs.Common.{◌≡◌, ℕ, ◌<◌, ◌≤◌, get_or}
use Rattle.replaying.specs.Before.{number_before}
use Rattle.replaying.proofs.tables.numbers_untouched.Given as goal

abbrev pub invariant-loop-i : goal.invariant-loop-i
invariant-loop-i l =
    (k : ℕ) → k < l.i → l.from ≤ k → get_or l.table k 0 ≡ number_before k
