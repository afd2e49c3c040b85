-- `span_after` meets its contract: by whether the section is a section 0.
use Rattle.std.proofs.Common.{eq-eqb, ne_eqb}
use Rattle.standing.specs.Standing.{span_after}
use Rattle.standing.proofs.span_after.Goals as goal

pub returns-then-section-eq-NUMBER : goal.returns-then-section-eq-NUMBER
unfolding span_after
returns-then-section-eq-NUMBER c = rw c.total_of.ensures (simp (eq-eqb _ _ c.if-section-eq-NUMBER.true))

pub returns : goal.returns
unfolding span_after
returns c = simp (ne_eqb _ _ c.if-section-eq-NUMBER.false)
