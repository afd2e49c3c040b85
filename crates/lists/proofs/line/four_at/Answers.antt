-- `four_at` meets its contract: four numbers, or the first that is not in form.
use native.Mathlib.Omega.{arith}
use Rattle.lists.specs.Line.{number_taken, four_taken, take_four}
use Rattle.lists.proofs.Places.{answers}
use Rattle.lists.proofs.Numbers.{number_most}
use Rattle.lists.proofs.line.four_at.Goals as goal

pub returns-in_default : goal.returns-in_default
unfolding take_four four_taken number_taken
returns-in_default c =
    rw (
    answers (number_taken _) c.number_at.ensures c.in_default.is
    )

pub returns-in_default-number_at : goal.returns-in_default-number_at
unfolding take_four four_taken number_taken
returns-in_default-number_at c =
    rw (
      answers (number_taken _) c.number_at.ensures c.in-Some.is,
      answers (number_taken _) c.number_at-2.ensures c.in_default-number_at.is,
    )

pub returns-in_default-number_at-2 : goal.returns-in_default-number_at-2
unfolding take_four four_taken number_taken
returns-in_default-number_at-2 c =
    rw (
      answers (number_taken _) c.number_at.ensures c.in-Some.is,
      answers (number_taken _) c.number_at-2.ensures c.in-Some-number_at.is,
      answers (number_taken _) c.number_at-3.ensures c.in_default-number_at-2.is,
    )

pub returns-in_default-number_at-3 : goal.returns-in_default-number_at-3
unfolding take_four four_taken number_taken
returns-in_default-number_at-3 c =
    rw (
      answers (number_taken _) c.number_at.ensures c.in-Some.is,
      answers (number_taken _) c.number_at-2.ensures c.in-Some-number_at.is,
      answers (number_taken _) c.number_at-3.ensures c.in-Some-number_at-2.is,
      answers (number_taken _) c.number_at-4.ensures c.in_default-number_at-3.is,
    )

pub overflow_cast-fields : goal.overflow_cast-fields
unfolding number_taken
overflow_cast-fields c =
    omega (
      arith,
      number_most 255 _ _ (omega arith)
          (answers (number_taken _) c.number_at-4.ensures c.in-Some-number_at-3.is),
    )

pub returns : goal.returns
unfolding take_four four_taken number_taken
returns c =
    rw (
      answers (number_taken _) c.number_at.ensures c.in-Some.is,
      answers (number_taken _) c.number_at-2.ensures c.in-Some-number_at.is,
      answers (number_taken _) c.number_at-3.ensures c.in-Some-number_at-2.is,
      answers (number_taken _) c.number_at-4.ensures c.in-Some-number_at-3.is,
    )
