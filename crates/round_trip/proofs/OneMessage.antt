-- A plan is one message exactly when the order of a whole list of numbers finds 0, the plan's and 8 clean, and no 8 stands in the plan
-- itself: with one, the list could be two messages.
use Rattle.std.specs.Prelude.{Ok}
use Prim.Native.Nat.{ℕ, zero, suc, ◌+◌}
use native.Mathlib.Omega.{arith}
use mathlib.Core.Path.{◌≡◌, refl, ◌∙◌}
use mathlib.Core.List.{List, [], ◌∷◌, ◌++◌}
use Rattle.octets.specs.Words.{Iff}
use Rattle.order.specs.Order.{judged, is_between, then_judged, order_from, order_of}
use Rattle.order.specs.declared.Order.{Order}
use Rattle.order.specs.declared.Order.TheVariants.{AfterIndicator}
use Rattle.order.specs.declared.Judged.{Judged}
use Rattle.order.specs.declared.Judged.TheVariants.{Fits, Closes, Misplaced, NoGrid}
use Rattle.order.proofs.Laws.{fits_below, closes_only}
use Rattle.writer.specs.Plan.{Part}
use Rattle.round_trip.specs.ReadBack.{numbers_of}
use Rattle.round_trip.specs.Faults.{AtNone, Reaches, arrived, on, EndsAfter, OneMessage}
use Rattle.order.specs.declared.Disorder.TheVariants.{Misplaced, NoGrid}

-- a section 8 in a plan
abbrev pub IsEnd : Part → Type 0
IsEnd part = part.number ≡ 8

-- the numbers and an 8, after what was read last
clean : (order last : Order) (from : ℕ) (parts : List Part) → Reaches order parts last → judged last 8 ≡ Closes
    → order_from order from (numbers_of parts ++ (8 ∷ [])) ≡ Ok tt
unfolding order_from is_between
clean order last from [] arrived closed = rw closed
clean order last from (part ∷ more) (on {next} fits rest) closed = rw fits (clean next last (from + 1) more rest closed)

no_end : {order last : Order} (parts : List Part) → Reaches order parts last → AtNone IsEnd parts
no_end [] arrived k inside end = omega arith
no_end (part ∷ more) (on {order} fits rest) zero inside end = let below = fits_below order part.number fits in omega arith
no_end (part ∷ more) (on fits rest) (suc k) inside end = no_end more rest k (omega arith) end

ends : (order : Order) (from : ℕ) (parts : List Part) → AtNone IsEnd parts → order_from order from (numbers_of parts ++ (8 ∷ [])) ≡ Ok tt
    → EndsAfter order parts
unfolding order_from
ends order from [] none e = go (judged order 8) refl e
  where
    go : (w : Judged) → judged order 8 ≡ w → then_judged w from (λ next. order_from next (from + 1) []) ≡ Ok tt → EndsAfter order []
    go (Fits next) w e = absurd (let below = fits_below order 8 w in omega arith)
    go Closes w e = record { last = order; ordered = arrived; closed = w }
    go Misplaced w e = absurd (let z : ◌≡◌ {A = ℕ} 0 1 = cc in omega arith)
    go NoGrid w e = absurd (let z : ◌≡◌ {A = ℕ} 0 1 = cc in omega arith)
ends order from (part ∷ more) none e =
    go (judged order part.number) refl e (λ next. ends next (from + 1) more (λ k inside. none (suc k) (omega arith)))
  where
    go : (w : Judged) → judged order part.number ≡ w
        → then_judged w from (λ next. order_from next (from + 1) (numbers_of more ++ (8 ∷ []))) ≡ Ok tt
        → ((next : Order) → order_from next (from + 1) (numbers_of more ++ (8 ∷ [])) ≡ Ok tt → EndsAfter next more)
        → EndsAfter order (part ∷ more)
    go (Fits next) w e ih = let m = ih next e in record { last = m.last; ordered = on w m.ordered; closed = m.closed }
    go Closes w e ih = absurd (none 0 (omega arith) (closes_only order part.number w).1)
    go Misplaced w e ih = absurd (let z : ◌≡◌ {A = ℕ} 0 1 = cc in omega arith)
    go NoGrid w e ih = absurd (let z : ◌≡◌ {A = ℕ} 0 1 = cc in omega arith)

-- section 0 is read first
from_0 : (parts : List Part) → order_of (0 ∷ (numbers_of parts ++ (8 ∷ []))) ≡ order_from AfterIndicator 1 (numbers_of parts ++ (8 ∷ []))
unfolding order_of order_from judged
from_0 parts = refl

pub one_message : (parts : List Part)
    → Iff (OneMessage parts) ((order_of (0 ∷ (numbers_of parts ++ (8 ∷ []))) ≡ Ok tt) × AtNone IsEnd parts)
one_message parts = (
  (λ m. (from_0 parts ∙ clean AfterIndicator m.last 1 parts m.ordered m.closed, no_end parts m.ordered)),
  λ h. ends AfterIndicator 1 parts h.1 (rw (from_0 parts) at h.0),
)
