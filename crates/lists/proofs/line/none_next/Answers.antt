-- `none_next` meets its contract: an octet that differs, or the test of the last.
use Prim.Native.Nat.{◌+◌}
use native.Mathlib.Omega.{arith}
use mathlib.Core.Path.{sym, ◌∙◌}
use Rattle.lists.proofs.Places.{
  inside_of,
  none_not_1,
  none_not_2,
  none_not_3,
  none_not_4,
  none_closed,
}
use Rattle.lists.proofs.line.none_next.Goals as goal

pub returns-then-not-next_is : goal.returns-then-not-next_is
returns-then-not-next_is c =
    let a = c.args in
    sym (none_not_1 a.close a.text.now a.at
    (sym c.next_is.ensures ∙ c.if-not-next_is.true))

pub overflow_add-at : goal.overflow_add-at
overflow_add-at c =
    let a = c.args in
    omega (
      arith,
      inside_of 110 a.text.now a.at
          (sym c.next_is.ensures ∙ c.if-not-next_is.false),
    )

pub returns-then-not-next_is-2 : goal.returns-then-not-next_is-2
returns-then-not-next_is-2 c =
    let a = c.args in
    sym (none_not_2 a.close a.text.now a.at
    (sym c.next_is.ensures ∙ c.if-not-next_is.false)
    (sym c.next_is-2.ensures ∙ c.if-not-next_is-2.true))

pub overflow_add-at-2 : goal.overflow_add-at-2
overflow_add-at-2 c =
    let a = c.args in
    omega (
      arith,
      inside_of 111 a.text.now (a.at + 1)
          (sym c.next_is-2.ensures ∙ c.if-not-next_is-2.false),
    )

pub returns-then-not-next_is-3 : goal.returns-then-not-next_is-3
returns-then-not-next_is-3 c =
    let a = c.args in
    sym (none_not_3 a.close a.text.now a.at
    (sym c.next_is.ensures ∙ c.if-not-next_is.false)
    (sym c.next_is-2.ensures ∙ c.if-not-next_is-2.false)
    (sym c.next_is-3.ensures ∙ c.if-not-next_is-3.true))

pub overflow_add-at-3 : goal.overflow_add-at-3
overflow_add-at-3 c =
    let a = c.args in
    omega (
      arith,
      inside_of 110 a.text.now (a.at + 2)
          (sym c.next_is-3.ensures ∙ c.if-not-next_is-3.false),
    )

pub returns-then-not-next_is-4 : goal.returns-then-not-next_is-4
returns-then-not-next_is-4 c =
    let a = c.args in
    sym (none_not_4 a.close a.text.now a.at
    (sym c.next_is.ensures ∙ c.if-not-next_is.false)
    (sym c.next_is-2.ensures ∙ c.if-not-next_is-2.false)
    (sym c.next_is-3.ensures ∙ c.if-not-next_is-3.false)
    (sym c.next_is-4.ensures ∙ c.if-not-next_is-4.true))

pub overflow_add-at-4 : goal.overflow_add-at-4
overflow_add-at-4 c =
    let a = c.args in
    omega (
      arith,
      inside_of 101 a.text.now (a.at + 3)
          (sym c.next_is-4.ensures ∙ c.if-not-next_is-4.false),
    )

pub returns : goal.returns
returns c =
    let a = c.args in
    c.next_is-5.ensures
    ∙ sym (none_closed a.close a.text.now a.at
    (sym c.next_is.ensures ∙ c.if-not-next_is.false)
    (sym c.next_is-2.ensures ∙ c.if-not-next_is-2.false)
    (sym c.next_is-3.ensures ∙ c.if-not-next_is-3.false)
    (sym c.next_is-4.ensures ∙ c.if-not-next_is-4.false))
