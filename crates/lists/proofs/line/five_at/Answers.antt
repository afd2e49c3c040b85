-- `five_at` meets its contract: four fields of the product, or the first that is not in form.
use Rattle.lists.specs.Line.{octet_taken, time_taken, five_taken, take_five}
use Rattle.lists.proofs.Places.{answers}
use Rattle.lists.proofs.line.five_at.Goals as goal

pub returns-in_default : goal.returns-in_default
unfolding take_five five_taken octet_taken time_taken
returns-in_default c =
    rw (
    answers (octet_taken _) c.octet_at.ensures c.in_default.is
    )

pub returns-in_default-octet_at : goal.returns-in_default-octet_at
unfolding take_five five_taken octet_taken time_taken
returns-in_default-octet_at c =
    rw (
      answers (octet_taken _) c.octet_at.ensures c.in-Some.is,
      answers (octet_taken _) c.octet_at-2.ensures c.in_default-octet_at.is,
    )

pub returns-in_default-time_at : goal.returns-in_default-time_at
unfolding take_five five_taken octet_taken time_taken
returns-in_default-time_at c =
    rw (
      answers (octet_taken _) c.octet_at.ensures c.in-Some.is,
      answers (octet_taken _) c.octet_at-2.ensures c.in-Some-octet_at.is,
      answers (time_taken _) c.time_at.ensures c.in_default-time_at.is,
    )

pub returns-in_default-octet_at-2 : goal.returns-in_default-octet_at-2
unfolding take_five five_taken octet_taken time_taken
returns-in_default-octet_at-2 c =
    rw (
      answers (octet_taken _) c.octet_at.ensures c.in-Some.is,
      answers (octet_taken _) c.octet_at-2.ensures c.in-Some-octet_at.is,
      answers (time_taken _) c.time_at.ensures c.in-Some-time_at.is,
      answers (octet_taken _) c.octet_at-3.ensures c.in_default-octet_at-2.is,
    )

pub returns : goal.returns
unfolding take_five five_taken octet_taken time_taken
returns c =
    rw (
      answers (octet_taken _) c.octet_at.ensures c.in-Some.is,
      answers (octet_taken _) c.octet_at-2.ensures c.in-Some-octet_at.is,
      answers (time_taken _) c.time_at.ensures c.in-Some-time_at.is,
      answers (octet_taken _) c.octet_at-3.ensures c.in-Some-octet_at-2.is,
    )
