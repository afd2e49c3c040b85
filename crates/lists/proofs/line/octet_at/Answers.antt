-- `octet_at` meets its contract: none, no number, or a number of one octet.
use native.Mathlib.Omega.{arith}
use mathlib.Core.Path.{sym, ◌∙◌}
use lib.Seq.{drop-drop}
use Rattle.lists.specs.Line.{number_taken, octet_taken, take_octet}
use Rattle.lists.proofs.Places.{answers, none_room}
use Rattle.lists.proofs.Numbers.{number_most}
use Rattle.lists.proofs.line.octet_at.Goals as goal

pub overflow_add-result : goal.overflow_add-result
overflow_add-result c =
    let a = c.args in
    omega (
      arith,
      none_room a.close a.text.now a.at
          (sym c.none_next.ensures ∙ c.if-none_next.true),
    )

pub returns-then-none_next : goal.returns-then-none_next
unfolding octet_taken take_octet
returns-then-none_next c = rw (← c.none_next.ensures, c.if-none_next.true, drop-drop)

pub returns-in_default : goal.returns-in_default
unfolding octet_taken take_octet number_taken
returns-in_default c =
    rw (
      ← c.none_next.ensures,
      c.if-none_next.false,
      answers (number_taken _) c.number_at.ensures c.in_default.is,
    )

pub overflow_cast-result : goal.overflow_cast-result
unfolding number_taken
overflow_cast-result c =
    omega (
      arith,
      number_most 255 _ _ (omega arith)
          (answers (number_taken _) c.number_at.ensures c.in-Some.is),
    )

pub returns : goal.returns
unfolding octet_taken take_octet number_taken
returns c =
    rw (
      ← c.none_next.ensures,
      c.if-none_next.false,
      answers (number_taken _) c.number_at.ensures c.in-Some.is,
    )
