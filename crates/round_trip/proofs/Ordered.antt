-- 16: the check finds the first misfit, and none where the plan is one message.
use Rattle.std.specs.Prelude.{Ok, Err}
use Prim.Native.Nat.{ℕ, zero, suc, ◌+◌}
use native.Mathlib.Omega.{arith}
use native.Mathlib.Nat.{add-zero}
use mathlib.Core.Path.{◌≡◌, refl, sym, ap, subst, ◌∙◌}
use mathlib.Core.Bool.{false}
use mathlib.Core.List.{List, [], ◌∷◌}
use mathlib.Core.Logic.{inl, inr, ⊎_elim}
use Rattle.octets.specs.Words.{Iff}
use Rattle.order.specs.Order.{judged, is_between}
use Rattle.order.specs.declared.Order.{Order}
use Rattle.order.specs.declared.Order.TheVariants.{AfterIndicator}
use Rattle.order.specs.declared.Judged.{Judged}
use Rattle.order.specs.declared.Judged.TheVariants.{Fits, Closes, Misplaced, NoGrid}
use Rattle.order.proofs.Laws.{fits_below, fits_open, closes_only}
use Rattle.writer.specs.Plan.{Part, Finding, plan_place, or_at, closed_at, misfit_from, misfit}
use Rattle.writer.proofs.Checks.{not_passed, same_place, misfit_on, misfit_passed, misfit_closed, fits_from_1}
use Rattle.round_trip.specs.Faults.{CantCome, Reaches, arrived, on, EndsAfter, OneMessage, Misfits, MisfitAfter, FirstMisfit}

-- nothing more is read
reaches_here : {order last : Order} → Reaches order [] last → order ≡ last
reaches_here arrived = refl

-- one section, and more
reaches_on : {order last : Order} {part : Part} {more : List Part} → Reaches order (part ∷ more) last
    → (next : Order) × (judged order part.number ≡ Fits next) × Reaches next more last
reaches_on (on {next} fits more) = (next, fits, more)

-- what can't come doesn't fit
never_fits : (order : Order) (number : ℕ) {next : Order} → is_between order ≡ false → judged order number ≡ Fits next
    → Misfits order number → ⊥
never_fits order number within fits =
    ⊎_elim
    (λ low. let from_1 = fits_from_1 order number within fits in omega arith)
    (⊎_elim
    (λ high. let below = fits_below order number fits in omega arith)
    (⊎_elim
    (λ e. let z : ◌≡◌ {A = ℕ} 0 1 = cc in omega arith)
    (λ e. let z : ◌≡◌ {A = ℕ} 0 1 = cc in omega arith)))

-- a number that misfits is named
or_at_lem : (order : Order) (number from : ℕ) (later : Order → Finding) → is_between order ≡ false → Misfits order number
    → or_at (judged order number) from later ≡ Err (plan_place from)
or_at_lem order number from later within misfits = go (judged order number) refl
  where
    go : (w : Judged) → judged order number ≡ w → or_at w from later ≡ Err (plan_place from)
    go (Fits next) e = absurd (never_fits order number within e misfits)
    go Closes e = refl
    go Misplaced e = refl
    go NoGrid e = refl

closed_at_lem : (order : Order) (from : ℕ) → CantCome order 8 → closed_at (judged order 8) from ≡ Err (plan_place from)
closed_at_lem order from cant = go (judged order 8) refl
  where
    go : (w : Judged) → judged order 8 ≡ w → closed_at w from ≡ Err (plan_place from)
    go (Fits next) e = refl
    go Closes e =
        absurd
        (⊎_elim
        (λ f. let z : ◌≡◌ {A = ℕ} 0 1 = cc in omega arith)
        (λ f. let z : ◌≡◌ {A = ℕ} 0 1 = cc in omega arith)
        cant)
    go Misplaced e = refl
    go NoGrid e = refl

-- the place named is the first misfit
misfit_is : (order : Order) (from at : ℕ) (parts : List Part) → is_between order ≡ false → misfit_from order from parts ≡ Err (plan_place at)
    → (j : ℕ) × (at ≡ from + j) × MisfitAfter order parts j
unfolding misfit_from
misfit_is order from at [] within e = go (judged order 8) refl e
  where
    found : from ≡ at → CantCome order 8 → (j : ℕ) × (at ≡ from + j) × MisfitAfter order [] j
    found same cant = (
      0,
      omega arith,
      record { inside = omega arith; last = order; before = arrived; number = λ some. absurd (omega arith); only_8 = λ all. cant },
    )

    go : (w : Judged) → judged order 8 ≡ w → closed_at w from ≡ Err (plan_place at) → (j : ℕ) × (at ≡ from + j) × MisfitAfter order [] j
    go (Fits next) w e = absurd (let below = fits_below order 8 w in omega arith)
    go Closes w e = absurd (let z : ◌≡◌ {A = ℕ} 0 1 = cc in omega arith)
    go Misplaced w e = found (same_place e) (inl w)
    go NoGrid w e = found (same_place e) (inr w)
misfit_is order from at (part ∷ more) within e =
    go (judged order part.number) refl e (λ next open'. misfit_is next (from + 1) at more open')
  where
    found : from ≡ at → Misfits order part.number → (j : ℕ) × (at ≡ from + j) × MisfitAfter order (part ∷ more) j
    found same misfits = (
      0,
      omega arith,
      record { inside = omega arith; last = order; before = arrived; number = λ some. misfits; only_8 = λ all. absurd (omega arith) },
    )

    go : (w : Judged) → judged order part.number ≡ w → or_at w from (λ next. misfit_from next (from + 1) more) ≡ Err (plan_place at)
        → ((next : Order) → is_between next ≡ false → misfit_from next (from + 1) more ≡ Err (plan_place at)
        → (j : ℕ) × (at ≡ from + 1 + j) × MisfitAfter next more j)
        → (j : ℕ) × (at ≡ from + j) × MisfitAfter order (part ∷ more) j
    go (Fits next) w e ih =
        let r = ih next (fits_open order part.number w) e in
        let sum = r.1 in
        let m = r.2 in
        let i = m.inside in (
          suc r.0,
          omega arith,
          record {
            inside = omega arith;
            last = m.last;
            before = on w m.before;
            number = λ some. m.number (omega arith);
            only_8 = λ all. m.only_8 (omega arith);
          },
        )
    go Closes w e ih =
        let eight = (closes_only order part.number w).1 in
        found (same_place e) (inr (inl (omega arith)))
    go Misplaced w e ih = found (same_place e) (inr (inr (inl w)))
    go NoGrid w e ih = found (same_place e) (inr (inr (inr w)))

-- the first misfit is the place named
is_misfit : (order : Order) (from j : ℕ) (parts : List Part) → is_between order ≡ false → MisfitAfter order parts j
    → misfit_from order from parts ≡ Err (plan_place (from + j))
unfolding misfit_from
is_misfit order from zero [] within m =
    let here = reaches_here m.before in
    closed_at_lem order from (rw here (m.only_8 refl)) ∙ rw add-zero
is_misfit order from (suc j) [] within m = absurd (let i = m.inside in omega arith)
is_misfit order from zero (part ∷ more) within m =
    let here = reaches_here m.before in
    or_at_lem order part.number from (λ next. misfit_from next (from + 1) more) within (rw here (m.number (omega arith))) ∙ rw add-zero
is_misfit order from (suc j) (part ∷ more) within m =
    let step = reaches_on m.before in
    let sum : from + 1 + j ≡ from + suc j = omega arith in
    let i = m.inside in
    let later : MisfitAfter step.0 more j =
    record {
      inside = omega arith;
      last = m.last;
      before = step.2;
      number = λ some. m.number (omega arith);
      only_8 = λ all. m.only_8 (omega arith);
    } in
    misfit_on order from part more step.1
    ∙ (is_misfit step.0 (from + 1) j more (fits_open order part.number step.1) later ∙ ap (λ (n : ℕ). Err (plan_place n)) sum)

-- a plan that passes ends the message
passed_ends : (order : Order) (from : ℕ) (parts : List Part) → misfit_from order from parts ≡ Ok tt → EndsAfter order parts
passed_ends order from [] e = record { last = order; ordered = arrived; closed = misfit_closed order from e }
passed_ends order from (part ∷ more) e =
    let step = misfit_passed order from part more e in
    let m = passed_ends step.0 (from + 1) more step.2 in
    record { last = m.last; ordered = on step.1 m.ordered; closed = m.closed }

ends_passed : (order : Order) (from : ℕ) (parts : List Part) → EndsAfter order parts → misfit_from order from parts ≡ Ok tt
unfolding misfit_from
ends_passed order from [] m = let here = reaches_here m.ordered in rw (here, m.closed)
ends_passed order from (part ∷ more) m =
    let step = reaches_on m.ordered in
    misfit_on order from part more step.1
    ∙ ends_passed step.0 (from + 1) more (record { last = m.last; ordered = step.2; closed = m.closed })

pub misfit_iff : (at : ℕ) (parts : List Part) → Iff (misfit parts ≡ Err (plan_place at)) (FirstMisfit parts at)
unfolding is_between
misfit_iff at parts = (
  (λ e.
      let r = misfit_is AfterIndicator 0 at parts refl e in
      let same : r.0 ≡ at = let sum = r.1 in omega arith in
      subst (FirstMisfit parts) same r.2),
  λ m. is_misfit AfterIndicator 0 at parts refl m ∙ ap (λ (n : ℕ). Err (plan_place n)) (let sum : 0 + at ≡ at = omega arith in sum),
)

pub message_iff : (parts : List Part) → Iff (misfit parts ≡ Ok tt) (OneMessage parts)
message_iff parts = (passed_ends AfterIndicator 0 parts, ends_passed AfterIndicator 0 parts)

-- there is a first misfit exactly where the plan is not one message
pub not_one_iff : (parts : List Part) → Iff ((at : ℕ) × FirstMisfit parts at) (OneMessage parts → ⊥)
not_one_iff parts = (
  (λ m one. not_passed (sym ((misfit_iff m.0 parts).1 m.1) ∙ (message_iff parts).1 one)),
  λ none. go none (misfit parts) refl,
)
  where
    go : (OneMessage parts → ⊥) → (c : Finding) → misfit parts ≡ c → (at : ℕ) × FirstMisfit parts at
    go none (Ok tt) e = absurd (none ((message_iff parts).0 e))
    go none (Err at) e = (at.0, (misfit_iff at.0 parts).0 e)
