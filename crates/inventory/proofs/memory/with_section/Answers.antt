-- `with_section` meets its contract: a section 0, a section 4, or another.
use borrow.Author.Tests.{eq-eqb, ne_eqb}
use Rattle.inventory.specs.Memory.{with_section}
use Rattle.inventory.proofs.memory.with_section.Goals as goal

pub returns-then-section-eq-NUMBER : goal.returns-then-section-eq-NUMBER
unfolding with_section
returns-then-section-eq-NUMBER c = simp (eq-eqb _ _ c.if-section-eq-NUMBER.true)

pub returns-then-section-eq-NUMBER-2 : goal.returns-then-section-eq-NUMBER-2
unfolding with_section
returns-then-section-eq-NUMBER-2 c = simp (ne_eqb _ _ c.if-section-eq-NUMBER.false, eq-eqb _ _ c.if-section-eq-NUMBER-2.true)

pub returns : goal.returns
unfolding with_section
returns c = simp (ne_eqb _ _ c.if-section-eq-NUMBER.false, ne_eqb _ _ c.if-section-eq-NUMBER-2.false)
