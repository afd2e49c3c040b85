-- `is_cut` meets its contract: the tests before each return decide `is_cut`.
use borrow.Author.Tests.{lt-ltb, le-ltb, eq-eqb, ne_eqb}
use Rattle.framing.specs.Framing.{is_cut}
use Rattle.framing.proofs.read.is_cut.Goals as goal

pub returns-then-number-eq-NUMBER : goal.returns-then-number-eq-NUMBER
unfolding is_cut
returns-then-number-eq-NUMBER c = simp (eq-eqb _ _ c.if-number-eq-NUMBER.true)

pub returns-then-left-length : goal.returns-then-left-length
unfolding is_cut
returns-then-left-length c = simp (ne_eqb _ _ c.if-number-eq-NUMBER.false, lt-ltb _ _ c.if-left-length.true)

pub returns-then-number-eq-NUMBER-2 : goal.returns-then-number-eq-NUMBER-2
unfolding is_cut
returns-then-number-eq-NUMBER-2 c = simp (ne_eqb _ _ c.if-number-eq-NUMBER.false, le-ltb _ _ c.if-left-length.false, eq-eqb _ _ c.if-number-eq-NUMBER-2.true)

pub returns : goal.returns
unfolding is_cut
returns c = simp (ne_eqb _ _ c.if-number-eq-NUMBER.false, le-ltb _ _ c.if-left-length.false, ne_eqb _ _ c.if-number-eq-NUMBER-2.false)
