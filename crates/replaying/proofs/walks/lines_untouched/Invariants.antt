-- `walks::lines_untouched` meets its contract: every line that was passed is what it was.
use Rattle.std.proofs.Common.{◌≡◌, ℕ, ◌<◌, ◌≤◌, get_or}
use Rattle.replaying.specs.Desk.{unset}
use Rattle.replaying.specs.Before.{no_line}
use Rattle.replaying.proofs.walks.lines_untouched.Given as goal

abbrev pub invariant-loop-i : goal.invariant-loop-i
invariant-loop-i l =
    (k : ℕ) → k < l.i → l.from ≤ k → get_or l.lines k no_line ≡ unset
