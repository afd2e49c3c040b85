-- `is_whole` meets its contract: where all tests pass, nothing is refused.
use mathlib.Core.Path.{sym, ◌∙◌}
use mathlib.Core.Bool.{false≢true}
use borrow.Author.Tests.{leb-true, eq-eqb}
use Rattle.framing.specs.Framing.{is_cut}
use Rattle.reading.specs.Glance.{WholeAhead}
use Rattle.reading.proofs.Whole.{uncut, passes}
use Rattle.reading.proofs.quick.is_whole.Goals as goal

pub returns-in_default : goal.returns-in_default
unfolding WholeAhead
returns-in_default c = λ e. absurd (false≢true e)

pub returns-then-whole-lt-HEADER_SIZE : goal.returns-then-whole-lt-HEADER_SIZE
unfolding WholeAhead
returns-then-whole-lt-HEADER_SIZE c = λ e. absurd (false≢true e)

pub returns-then-whole-least : goal.returns-then-whole-least
unfolding WholeAhead
returns-then-whole-least c = λ e. absurd (false≢true e)

pub returns-then-number-eq-NUMBER : goal.returns-then-number-eq-NUMBER
unfolding WholeAhead is_cut
returns-then-number-eq-NUMBER c =
    λ e.
    let least = sym c.least_payload_of-known.ensures ∙ c.in-Some.is in
    (c.if-whole-lt-HEADER_SIZE.false, passes _ _ _ _ least c.if-whole-lt-HEADER_SIZE.false c.if-whole-least.false (simp (eq-eqb _ _ c.if-number-eq-NUMBER.true)))

pub returns : goal.returns
unfolding WholeAhead
returns c =
    λ e.
    let least = sym c.least_payload_of-known.ensures ∙ c.in-Some.is in
    let whole = uncut _ _ _ _ least c.if-whole-lt-HEADER_SIZE.false c.if-whole-least.false (leb-true _ _ e) in
    (c.if-whole-lt-HEADER_SIZE.false, passes _ _ _ _ least c.if-whole-lt-HEADER_SIZE.false c.if-whole-least.false whole)
