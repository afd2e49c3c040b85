-- `in_force` meets its contract: section 2, a section that a place is kept for, or the end section.
use borrow.Author.Tests.{eq-eqb, ne_eqb, lt-ltb, le-ltb}
use Rattle.index.specs.Lines.{in_force}
use Rattle.index.proofs.line.in_force.Goals as goal

pub returns-then-number-eq-NUMBER : goal.returns-then-number-eq-NUMBER
unfolding in_force
returns-then-number-eq-NUMBER c = simp (eq-eqb _ _ c.if-number-eq-NUMBER.true)

pub returns-then-number-lt-NUMBER : goal.returns-then-number-lt-NUMBER
unfolding in_force
returns-then-number-lt-NUMBER c = simp (ne_eqb _ _ c.if-number-eq-NUMBER.false, lt-ltb _ _ c.if-number-lt-NUMBER.true)

pub returns-else-number-lt-NUMBER : goal.returns-else-number-lt-NUMBER
unfolding in_force
returns-else-number-lt-NUMBER c = simp (ne_eqb _ _ c.if-number-eq-NUMBER.false, le-ltb _ _ c.if-number-lt-NUMBER.false)
