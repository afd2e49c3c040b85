-- `next_start` meets its contract. The loop's invariant: no message starts from `at` up to `i`; it has no start behind
-- `last` to look for.
use native.Mathlib.Omega.{arith}
use borrow.Author.Rules.{rules}
use Rattle.framing.proofs.NextStart.{start_room, found_start, found_late, not_found}
use Rattle.framing.proofs.search.next_start.Goals as goal

pub returns-then-file-lt-WHOLE_SIZE : goal.returns-then-file-lt-WHOLE_SIZE
returns-then-file-lt-WHOLE_SIZE c = λ k from there. omega (arith, start_room _ k there)

pub loop-i-init : goal.loop-i-init
loop-i-init c = (search rules, λ k below from. absurd (omega arith))

pub returns-then-g-last : goal.returns-then-g-last
returns-then-g-last c = found_start _ _ _ c.loop-i.invariant.1 c.grib_in_four-found.ensures _ c.in-Some.is c.loop-i.invariant.0 (omega arith)

pub returns-in-Some : goal.returns-in-Some
returns-in-Some c = found_late _ _ _ c.loop-i.invariant.1 c.grib_in_four-found.ensures _ c.in-Some.is (omega arith)

pub loop-i-preserved : goal.loop-i-preserved
loop-i-preserved c = (omega arith, not_found _ _ _ c.loop-i.invariant.1 c.grib_in_four-found.ensures c.in_default.is)

pub returns : goal.returns
returns c = λ k from there. let room = start_room _ k there in c.loop-i.invariant.1 k (omega arith) from there
