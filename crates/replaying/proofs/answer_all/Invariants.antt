-- `replaying::answer_all` ends, and meets its contract: each request starts behind the last one.
use Rattle.std.proofs.Common.{length, ◌-◌, ◌≤◌}
use Rattle.replaying.proofs.answer_all.Given as goal

abbrev pub invariant-loop-at : goal.invariant-loop-at
invariant-loop-at g l = l.at ≤ length l.input

abbrev pub decreases-loop-at : goal.decreases-loop-at
decreases-loop-at g l = length l.input - l.at
