-- `time_at` meets its contract: both none, one that is not in form, or two numbers.
use Rattle.std.specs.Prelude.{None}
use Prim.Native.Nat.{ℕ, ◌+◌}
use native.Mathlib.Omega.{arith}
use mathlib.Core.Path.{◌≡◌, sym, ap, ◌∙◌}
use mathlib.Core.Bool.{true, false}
use mathlib.Core.List.{List}
use lib.ListN.{drop}
use lib.Seq.{drop-drop}
use Rattle.entries.specs.Entries.{colon}
use Rattle.lists.specs.Line.{taken, not_taken, none_next, take_time, number_taken, time_taken}
use Rattle.lists.proofs.Places.{answers, none_room}
use Rattle.lists.proofs.Numbers.{number_most}
use Rattle.lists.proofs.line.time_at.Goals as goal

-- where the unit is none, the time is too, or it is not in form
module _ (text : List ℕ) (at : ℕ) (none : none_next colon (drop at text) ≡ true) where
  both_none : none_next colon (drop (at + 5) text) ≡ true
      → take_time (drop at text) ≡ taken None (drop (at + 10) text)
  unfolding take_time
  both_none both =
      rw (none, ap (none_next colon) (drop-drop 5 at text) ∙ both)
      (ap (taken None) (drop-drop 10 at text))

  unit_none : none_next colon (drop (at + 5) text) ≡ false → take_time (drop at text) ≡ not_taken
  unfolding take_time
  unit_none one = rw (none, ap (none_next colon) (drop-drop 5 at text) ∙ one)

pub overflow_add-at : goal.overflow_add-at
overflow_add-at c =
    let a = c.args in
    omega (
      arith,
      none_room 58 a.text.now a.at
          (sym c.none_next.ensures ∙ c.if-none_next.true),
    )

pub overflow_add-result : goal.overflow_add-result
overflow_add-result c =
    let a = c.args in
    omega (
      arith,
      none_room 58 a.text.now (a.at + 5)
          (sym c.none_next-then-none_next.ensures ∙ c.if-none_next-2.true),
    )

pub returns-then-none_next-2 : goal.returns-then-none_next-2
unfolding time_taken
returns-then-none_next-2 c =
    let a = c.args in
    sym (both_none a.text.now a.at (sym c.none_next.ensures ∙ c.if-none_next.true)
    (sym c.none_next-then-none_next.ensures ∙ c.if-none_next-2.true))

pub returns-then-none_next : goal.returns-then-none_next
unfolding time_taken
returns-then-none_next c =
    let a = c.args in
    sym (unit_none a.text.now a.at (sym c.none_next.ensures ∙ c.if-none_next.true)
    (sym c.none_next-then-none_next.ensures ∙ c.if-none_next-2.false))

pub returns-in_default : goal.returns-in_default
unfolding time_taken take_time number_taken
returns-in_default c =
    rw (
      ← c.none_next.ensures,
      c.if-none_next.false,
      answers (number_taken _) c.number_at.ensures c.in_default.is,
    )

pub returns-in_default-number_at : goal.returns-in_default-number_at
unfolding time_taken take_time number_taken
returns-in_default-number_at c =
    rw (
      ← c.none_next.ensures,
      c.if-none_next.false,
      answers (number_taken _) c.number_at.ensures c.in-Some.is,
      answers (number_taken _) c.number_at-2.ensures c.in_default-number_at.is,
    )

pub overflow_cast-fields : goal.overflow_cast-fields
unfolding number_taken
overflow_cast-fields c =
    omega (
      arith,
      number_most 255 _ _ (omega arith)
          (answers (number_taken _) c.number_at.ensures c.in-Some.is),
    )

pub overflow_cast-fields-2 : goal.overflow_cast-fields-2
unfolding number_taken
overflow_cast-fields-2 c =
    omega (
      arith,
      number_most 4294967295 _ _ (omega arith)
          (answers (number_taken _) c.number_at-2.ensures c.in-Some-number_at.is),
    )

pub returns : goal.returns
unfolding time_taken take_time number_taken
returns c =
    rw (
      ← c.none_next.ensures,
      c.if-none_next.false,
      answers (number_taken _) c.number_at.ensures c.in-Some.is,
      answers (number_taken _) c.number_at-2.ensures c.in-Some-number_at.is,
    )
