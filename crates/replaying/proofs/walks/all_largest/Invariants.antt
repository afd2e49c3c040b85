-- `walks::all_largest` meets its contract: every number that was passed is the largest.
use Rattle.std.proofs.Common.{◌≡◌, ℕ, ◌<◌, get_or}
use Rattle.replaying.specs.Desk.{largest}
use Rattle.replaying.proofs.walks.all_largest.Given as goal

abbrev pub invariant-loop-number : goal.invariant-loop-number
invariant-loop-number l = (k : ℕ) → k < l.number-index → get_or l.fn.numbers k 0 ≡ largest
