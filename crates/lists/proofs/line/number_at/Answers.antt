-- `number_at` meets its contract: one return for each first octet.
use mathlib.Core.Path.{sym, ◌∙◌}
use Rattle.lists.specs.Line.{number_taken}
use Rattle.lists.proofs.Places.{
  digit_low,
  number_behind,
  number_zero,
  number_zero_goes_on,
  number_no_digit,
  number_digits,
}
use Rattle.lists.proofs.line.number_at.Goals as goal

pub returns-then-text-at : goal.returns-then-text-at
unfolding number_taken
returns-then-text-at c = sym (number_behind _ _ _ _ c.if-text-at.true)

pub returns-then-next_is : goal.returns-then-next_is
unfolding number_taken
returns-then-next_is c =
    sym (number_zero _ _ _ _ c.if-text-at.false c.if-first-eq48.true
    (sym c.next_is.ensures ∙ c.if-next_is.true))

pub returns-then-first-eq48 : goal.returns-then-first-eq48
unfolding number_taken
returns-then-first-eq48 c =
    sym (number_zero_goes_on _ _ _ _ c.if-text-at.false c.if-first-eq48.true
    (sym c.next_is.ensures ∙ c.if-next_is.false))

pub returns-then-not-is_digit : goal.returns-then-not-is_digit
unfolding number_taken
returns-then-not-is_digit c =
    sym (number_no_digit _ _ _ _ c.if-text-at.false c.if-first-eq48.false
    (sym c.is_digit.ensures ∙ c.if-not-is_digit.true))

pub overflow_sub-first : goal.overflow_sub-first
overflow_sub-first c = digit_low _ (sym c.is_digit.ensures ∙ c.if-not-is_digit.false)

pub returns : goal.returns
returns c =
    c.digits_at.ensures
    ∙ sym (number_digits _ _ _ _ c.if-text-at.false c.if-first-eq48.false
    (sym c.is_digit.ensures ∙ c.if-not-is_digit.false))
