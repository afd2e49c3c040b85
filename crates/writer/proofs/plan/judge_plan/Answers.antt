-- `judge_plan` meets its contract: each return's checks are those that `judged_plan` makes, in its order.
use Rattle.std.specs.Prelude.{Ok, Err}
use Prim.Native.Nat.{ℕ, ◌/◌, ◌≤◌, ◌<◌}
use native.Mathlib.Omega.{arith}
use borrow.Author.Rules.{rules}
use mathlib.Core.Path.{◌≡◌, sym, ap, ◌∙◌}
use mathlib.Core.List.{List}
use lib.ListN.{length}
use borrow.Author.Tests.{lt-ltb, le-ltb}
use Rattle.writer.specs.Plan.{parts_of, misfit, first_at, is_outside, is_wrong_size, total_of, judged_plan}
use Rattle.writer.specs.declared.PlanPlace.{PlanPlace}
use Rattle.writer.proofs.Parts.{count_parts}
use Rattle.writer.proofs.plan.judge_plan.Goals as goal
use Rattle.writer.specs.declared.WriteRefusal.TheVariants.{TooManySections, NotOneMessage, OutsideStore, PayloadSize, NoRoom}

module _ (plan : List ℕ) (store room : ℕ) where
  too_many : 4096 < length plan / 3 → Err TooManySections ≡ judged_plan (parts_of plan) store room
  unfolding judged_plan
  too_many over = rw (count_parts plan, lt-ltb 4096 (length plan / 3) over)

  module _ (few : length plan / 3 ≤ 4096) where
    misfits : (at : PlanPlace) → misfit (parts_of plan) ≡ Err at → Err (NotOneMessage at) ≡ judged_plan (parts_of plan) store room
    unfolding judged_plan
    misfits at o = rw (count_parts plan, le-ltb 4096 (length plan / 3) few, o)

    module _ (o : misfit (parts_of plan) ≡ Ok tt) where
      outside : (at : PlanPlace) → first_at (is_outside store) 0 (parts_of plan) ≡ Err at
          → Err (OutsideStore at) ≡ judged_plan (parts_of plan) store room
      unfolding judged_plan
      outside at i = rw (count_parts plan, le-ltb 4096 (length plan / 3) few, o, i)

      module _ (i : first_at (is_outside store) 0 (parts_of plan) ≡ Ok tt) where
        wrong_size : (at : PlanPlace) → first_at is_wrong_size 0 (parts_of plan) ≡ Err at
            → Err (PayloadSize at) ≡ judged_plan (parts_of plan) store room
        unfolding judged_plan
        wrong_size at s = rw (count_parts plan, le-ltb 4096 (length plan / 3) few, o, i, s)

        module _ (s : first_at is_wrong_size 0 (parts_of plan) ≡ Ok tt) (total : ℕ) (sum : total ≡ total_of (parts_of plan)) where
          no_room : room < total → Err NoRoom ≡ judged_plan (parts_of plan) store room
          unfolding judged_plan
          no_room over =
              rw (count_parts plan, le-ltb 4096 (length plan / 3) few, o, i, s, lt-ltb room (total_of (parts_of plan)) (omega (arith, sum)))

          module _ (fits : total ≤ room) where
            too_large : 1099511627776 < total → Err NoRoom ≡ judged_plan (parts_of plan) store room
            unfolding judged_plan
            too_large over =
                rw (
                  count_parts plan,
                  le-ltb 4096 (length plan / 3) few,
                  o,
                  i,
                  s,
                  le-ltb room (total_of (parts_of plan)) (omega (arith, sum)),
                  lt-ltb 1099511627776 (total_of (parts_of plan)) (omega (arith, sum)),
                )

            whole : total ≤ 1099511627776 → Ok total ≡ judged_plan (parts_of plan) store room
            unfolding judged_plan
            whole small =
                ap Ok sum
                ∙ rw (
                  count_parts plan,
                  le-ltb 4096 (length plan / 3) few,
                  o,
                  i,
                  s,
                  le-ltb room (total_of (parts_of plan)) (omega (arith, sum)),
                  le-ltb 1099511627776 (total_of (parts_of plan)) (omega (arith, sum)),
                )

pub returns-then-plan-gt-MOST_SECTIONS : goal.returns-then-plan-gt-MOST_SECTIONS
returns-then-plan-gt-MOST_SECTIONS c = too_many _ _ _ c.if-plan-gt-MOST_SECTIONS.true

pub returns-in-Err : goal.returns-in-Err
returns-in-Err c = misfits _ _ _ c.if-plan-gt-MOST_SECTIONS.false _ (sym c.first_misfit-order.ensures ∙ c.in-Err.is)

pub returns-in-Err-parts : goal.returns-in-Err-parts
unfolding is_outside is_wrong_size
returns-in-Err-parts c =
    outside _ _ _ c.if-plan-gt-MOST_SECTIONS.false (sym c.first_misfit-order.ensures ∙ c.in_default.is) _
    (sym (c.first_at-parts.ensures (is_outside c.args.store) λ part answer e. search rules) ∙ c.in-Err-parts.is)

pub returns-in-Err-sizes : goal.returns-in-Err-sizes
unfolding is_outside is_wrong_size
returns-in-Err-sizes c =
    wrong_size _ _ _ c.if-plan-gt-MOST_SECTIONS.false (sym c.first_misfit-order.ensures ∙ c.in_default.is)
    (sym (c.first_at-parts.ensures (is_outside c.args.store) λ part answer e. search rules) ∙ c.in_default-parts.is)
    _ (sym (c.first_at-sizes.ensures is_wrong_size λ part answer e. search rules) ∙ c.in-Err-sizes.is)

pub total_of-total-requires : goal.total_of-total-requires
unfolding is_outside is_wrong_size
total_of-total-requires c = (rw count_parts c.if-plan-gt-MOST_SECTIONS.false, (sym (c.first_at-sizes.ensures is_wrong_size λ part answer e. search rules) ∙ c.in_default-sizes.is))

pub returns-then-room-total : goal.returns-then-room-total
unfolding is_outside is_wrong_size
returns-then-room-total c =
    no_room _ _ _ c.if-plan-gt-MOST_SECTIONS.false (sym c.first_misfit-order.ensures ∙ c.in_default.is)
    (sym (c.first_at-parts.ensures (is_outside c.args.store) λ part answer e. search rules) ∙ c.in_default-parts.is)
    (sym (c.first_at-sizes.ensures is_wrong_size λ part answer e. search rules) ∙ c.in_default-sizes.is)
    _ c.total_of-total.ensures c.if-room-total.true

pub returns-then-total-gt-MOST_OCTETS : goal.returns-then-total-gt-MOST_OCTETS
unfolding is_outside is_wrong_size
returns-then-total-gt-MOST_OCTETS c =
    too_large _ _ _ c.if-plan-gt-MOST_SECTIONS.false (sym c.first_misfit-order.ensures ∙ c.in_default.is)
    (sym (c.first_at-parts.ensures (is_outside c.args.store) λ part answer e. search rules) ∙ c.in_default-parts.is)
    (sym (c.first_at-sizes.ensures is_wrong_size λ part answer e. search rules) ∙ c.in_default-sizes.is)
    _ c.total_of-total.ensures c.if-room-total.false c.if-total-gt-MOST_OCTETS.true

pub returns : goal.returns
unfolding is_outside is_wrong_size
returns c =
    whole _ _ _ c.if-plan-gt-MOST_SECTIONS.false (sym c.first_misfit-order.ensures ∙ c.in_default.is)
    (sym (c.first_at-parts.ensures (is_outside c.args.store) λ part answer e. search rules) ∙ c.in_default-parts.is)
    (sym (c.first_at-sizes.ensures is_wrong_size λ part answer e. search rules) ∙ c.in_default-sizes.is)
    _ c.total_of-total.ensures c.if-room-total.false c.if-total-gt-MOST_OCTETS.false
