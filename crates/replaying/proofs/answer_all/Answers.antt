-- `replaying::answer_all` ends, and meets its contract: each request starts behind the last one.
use Rattle.std.proofs.Common.{arith}
use Rattle.requests.proofs.Places.{goes}
use Rattle.replaying.proofs.answer_all.Goals as goal

pub loop-at-smaller : goal.loop-at-smaller
loop-at-smaller g c = let w = goes _ _ _ c.in_ok-at.ensures (omega arith) in omega arith

pub loop-at-preserved : goal.loop-at-preserved
loop-at-preserved g c = (goes _ _ _ c.in_ok-at.ensures (omega arith)).inside
