-- `first_misfit` meets its contract. The loop keeps `Kept`: what is left, judged after what was read last, is the whole plan judged.
use Rattle.std.specs.Prelude.{Err}
use Prim.Native.Nat.{ℕ, ◌+◌, ◌*◌, ◌/◌, ◌<◌}
use native.Mathlib.Omega.{arith}
use mathlib.Core.Path.{◌≡◌, refl, sym, ◌∙◌}
use mathlib.Core.List.{List}
use lib.ListN.{length, drop, get_or}
use Rattle.order.specs.Order.{judged}
use Rattle.order.specs.declared.Order.{Order}
use Rattle.order.specs.declared.Judged.{Judged}
use Rattle.order.specs.declared.Judged.TheVariants.{Fits, Closes, Misplaced, NoGrid}
use Rattle.writer.specs.Plan.{Finding, plan_place, parts_of, or_at, closed_at, misfit_from, misfit}
use Rattle.writer.proofs.Parts.{next_row, no_row}
use Rattle.writer.proofs.plan.first_misfit.Goals as goal
use Rattle.writer.proofs.plan.first_misfit.Invariants.{Kept}

or_at_lem : (w : Judged) (at : ℕ) (later : Order → Finding) → ((next : Order) → w ≡ Fits next → ⊥)
    → or_at w at later ≡ Err (plan_place at)
or_at_lem (Fits next) at later other = absurd (other next refl)
or_at_lem Closes at later other = refl
or_at_lem Misplaced at later other = refl
or_at_lem NoGrid at later other = refl

closed_at_lem : (w : Judged) (at : ℕ) → (w ≡ Closes → ⊥) → closed_at w at ≡ Err (plan_place at)
closed_at_lem (Fits next) at other = refl
closed_at_lem Closes at other = absurd (other refl)
closed_at_lem Misplaced at other = refl
closed_at_lem NoGrid at other = refl

module _ {plan : List ℕ} {order : Order} {at : ℕ} (k : Kept plan order at) where
  module _ (more : at < length plan / 3) where
    -- the number at this place is judged, and the rest after it
    decides : {w : Judged} → judged order (get_or plan (at * 3) 0) ≡ w
        → or_at w at (λ next. misfit_from next (at + 1) (parts_of (drop ((at + 1) * 3) plan))) ≡ misfit (parts_of plan)
    unfolding misfit_from
    decides e = rw (next_row plan at more, e) at k.same

    fits : {next : Order} → judged order (get_or plan (at * 3) 0) ≡ Fits next → Kept plan next (at + 1)
    fits e = record { same = decides e }

    misfits : (w : Judged) → w ≡ judged order (get_or plan (at * 3) 0) → ((next : Order) → w ≡ Fits next → ⊥)
        → Err (plan_place at) ≡ misfit (parts_of plan)
    misfits w e other = sym (or_at_lem w at _ other) ∙ decides (sym e)

  -- the 8 is judged
  module _ (over : at ≡ length plan / 3) where
    ends : {w : Judged} → judged order 8 ≡ w → closed_at w (length plan / 3) ≡ misfit (parts_of plan)
    unfolding misfit_from
    ends e = rw (← over) (rw (no_row plan at (omega arith), e) at k.same)

    misfits_8 : (w : Judged) → w ≡ judged order 8 → (w ≡ Closes → ⊥) → Err (plan_place (length plan / 3)) ≡ misfit (parts_of plan)
    misfits_8 w e other = sym (closed_at_lem w _ other) ∙ ends (sym e)

pub loop-place-init : goal.loop-place-init
loop-place-init c = record { same = refl }

pub returns-in_default : goal.returns-in_default
returns-in_default c =
    misfits c.loop-place.invariant c.loop-place-test.true c.judge-judged.result c.judge-judged.ensures c.in_default.not-Fits

pub loop-place-preserved : goal.loop-place-preserved
loop-place-preserved c = fits c.loop-place.invariant c.loop-place-test.true (sym c.judge-judged.ensures ∙ c.in-Fits.is)

pub returns-in_default-last : goal.returns-in_default-last
returns-in_default-last c =
    misfits_8 c.loop-place.invariant (omega arith) c.judge-last.result c.judge-last.ensures c.in_default-last.not-Closes

pub returns : goal.returns
returns c = ends c.loop-place.invariant (omega arith) (sym c.judge-last.ensures ∙ c.in-Closes.is)
