-- `line_at` meets its contract: both parts of a line, or the first that is not in form.
use Rattle.lists.specs.Line.{four_taken, five_taken, line_taken, take_line}
use Rattle.lists.proofs.Places.{answers}
use Rattle.lists.proofs.line.line_at.Goals as goal

pub returns-in_default : goal.returns-in_default
unfolding take_line line_taken four_taken five_taken
returns-in_default c =
    rw (
    answers (four_taken _) c.four_at.ensures c.in_default.is
    )

pub returns-in_default-five_at : goal.returns-in_default-five_at
unfolding take_line line_taken four_taken five_taken
returns-in_default-five_at c =
    rw (
      answers (four_taken _) c.four_at.ensures c.in-Some.is,
      answers (five_taken _) c.five_at.ensures c.in_default-five_at.is,
    )

pub returns : goal.returns
unfolding take_line line_taken four_taken five_taken
returns c =
    rw (
      answers (four_taken _) c.four_at.ensures c.in-Some.is,
      answers (five_taken _) c.five_at.ensures c.in-Some-five_at.is,
    )
