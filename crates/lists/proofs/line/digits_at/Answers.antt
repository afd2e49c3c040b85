-- `digits_at` meets its contract. The loop's invariant: what is read on from `i` behind `value` is
-- the answer.
use native.Mathlib.Omega.{arith}
use mathlib.Core.Path.{sym, ◌∙◌}
use Rattle.lists.specs.Line.{number_taken}
use Rattle.lists.proofs.Places.{
  digit_low,
  digits_behind,
  digits_closed,
  digits_not_closed,
  digits_too_many,
  digits_further,
}
use Rattle.lists.proofs.line.digits_at.Goals as goal

pub returns-then-octet-close : goal.returns-then-octet-close
unfolding number_taken
returns-then-octet-close c =
    sym (digits_closed _ _ _ _ _ c.loop-i-test.true
    (sym c.is_digit.ensures ∙ c.if-not-is_digit.true) c.if-octet-close.true)
    ∙ c.loop-i.invariant.1

pub returns-then-not-is_digit : goal.returns-then-not-is_digit
unfolding number_taken
returns-then-not-is_digit c =
    sym (digits_not_closed _ _ _ _ _ c.loop-i-test.true
    (sym c.is_digit.ensures ∙ c.if-not-is_digit.true) c.if-octet-close.false)
    ∙ c.loop-i.invariant.1

pub overflow_sub-value : goal.overflow_sub-value
overflow_sub-value c = digit_low _ (sym c.is_digit.ensures ∙ c.if-not-is_digit.false)

pub returns-then-most-value : goal.returns-then-most-value
unfolding number_taken
returns-then-most-value c =
    sym (digits_too_many _ _ _ _ _ c.loop-i-test.true
    (sym c.is_digit.ensures ∙ c.if-not-is_digit.false) c.if-most-value.true)
    ∙ c.loop-i.invariant.1

pub loop-i-preserved : goal.loop-i-preserved
loop-i-preserved c = (
  omega (arith, c.requires.most),
  sym (digits_further _ _ _ _ _ c.loop-i-test.true
      (sym c.is_digit.ensures ∙ c.if-not-is_digit.false) c.if-most-value.false)
      ∙ c.loop-i.invariant.1,
)

pub returns : goal.returns
unfolding number_taken
returns c = sym (digits_behind _ _ _ _ _ c.loop-i-test.false) ∙ c.loop-i.invariant.1
