-- `passed` meets its contract: what its callees make of the count and of what is in force.
use Rattle.walk.proofs.tally.passed.Goals as goal

pub returns : goal.returns
returns c = simp (c.with_span-t.ensures, c.in_force.ensures, c.one_more.ensures, c.span_after-span.ensures)
