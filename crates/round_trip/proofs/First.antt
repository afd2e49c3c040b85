-- The first place at fault: a check that looks at each section alone, by one law; and what 17 and 18 look for.
use Rattle.std.specs.Prelude.{Option, Some, None, Ok, Err}
use Prim.Native.Nat.{ℕ, zero, suc, ◌+◌, ◌<◌}
use native.Mathlib.Omega.{arith}
use native.Mathlib.Nat.{add-zero}
use mathlib.Core.Path.{◌≡◌, refl, ap, subst, ◌∙◌}
use mathlib.Core.Bool.{Bool, true, false, ◌||◌}
use mathlib.Core.List.{List, [], ◌∷◌}
use mathlib.Core.Logic.{◌⊎◌, inl, inr, ⊎_elim}
use lib.Dec.{ltb}
use borrow.Author.Tests.{ltb-true}
use Rattle.octets.specs.Words.{pick, Iff}
use Rattle.sections.specs.Kinds.{least_payload_of}
use Rattle.writer.specs.Plan.{Part, plan_place, first_at, is_outside, is_wrong_size}
use Rattle.writer.proofs.Checks.{not_passed, same_place, inside_is, sized_is, not_long}
use Rattle.round_trip.specs.Faults.{part_at, FirstAt, AtNone, Outside, WrongSize}

-- a test decides what is at fault
record Decides (faulty : Part → Bool) (Faulty : Part → Type 0) : Type 0 where
  is : (part : Part) → faulty part ≡ true → Faulty part
  is_not : (part : Part) → faulty part ≡ false → Faulty part → ⊥

module _ (faulty : Part → Bool) (Faulty : Part → Type 0) (dec : Decides faulty Faulty) where
  later : (part : Part) (more : List Part) (j : ℕ) → (Faulty part → ⊥) → FirstAt Faulty more j → FirstAt Faulty (part ∷ more) (suc j)
  later part more j sound first = record { inside = let i = first.inside in omega arith; fault = first.fault; before = go }
    where
      go : (k : ℕ) → k < suc j → Faulty (part_at (part ∷ more) k) → ⊥
      go zero below fault = sound fault
      go (suc k) below fault = first.before k (omega arith) fault

  is_first : (from at : ℕ) (parts : List Part) → first_at faulty from parts ≡ Err (plan_place at)
      → (j : ℕ) × (at ≡ from + j) × FirstAt Faulty parts j
  unfolding first_at
  is_first from at [] e = absurd (let z : ◌≡◌ {A = ℕ} 0 1 = cc in omega arith)
  is_first from at (part ∷ more) e = go (faulty part) refl e (is_first (from + 1) at more)
    where
      go : (t : Bool) → faulty part ≡ t → pick t (Err (plan_place from)) (first_at faulty (from + 1) more) ≡ Err (plan_place at)
          → (first_at faulty (from + 1) more ≡ Err (plan_place at) → (j : ℕ) × (at ≡ from + 1 + j) × FirstAt Faulty more j)
          → (j : ℕ) × (at ≡ from + j) × FirstAt Faulty (part ∷ more) j
      go true fault e ih =
          let same = same_place e in
          (0, omega arith, record { inside = omega arith; fault = dec.is part fault; before = λ k below. absurd (omega arith) })
      go false sound e ih =
          let r = ih e in
          let sum = r.1 in
          (suc r.0, omega arith, later part more r.0 (dec.is_not part sound) r.2)

  first_is : (from j : ℕ) (parts : List Part) → FirstAt Faulty parts j → first_at faulty from parts ≡ Err (plan_place (from + j))
  unfolding first_at
  first_is from j [] first = absurd (let i = first.inside in omega arith)
  first_is from j (part ∷ more) first = go (faulty part) refl j first (λ i. first_is (from + 1) i more)
    where
      go : (t : Bool) → faulty part ≡ t → (j : ℕ) → FirstAt Faulty (part ∷ more) j
          → ((i : ℕ) → FirstAt Faulty more i → first_at faulty (from + 1) more ≡ Err (plan_place (from + 1 + i)))
          → pick t (Err (plan_place from)) (first_at faulty (from + 1) more) ≡ Err (plan_place (from + j))
      go true fault zero first ih = rw add-zero
      go true fault (suc j) first ih = absurd (first.before 0 (omega arith) (dec.is part fault))
      go false sound zero first ih = absurd (dec.is_not part sound first.fault)
      go false sound (suc j) first ih =
          let sum : from + 1 + j ≡ from + suc j = omega arith in
          let i = first.inside in
          ih j (record { inside = omega arith; fault = first.fault; before = λ k below. first.before (suc k) (omega arith) })
          ∙ ap (λ (n : ℕ). Err (plan_place n)) sum

  none_more : (part : Part) (more : List Part) → (Faulty part → ⊥) → AtNone Faulty more → AtNone Faulty (part ∷ more)
  none_more part more sound rest zero inside fault = sound fault
  none_more part more sound rest (suc k) inside fault = rest k (omega arith) fault

  passed_none : (from : ℕ) (parts : List Part) → first_at faulty from parts ≡ Ok tt → AtNone Faulty parts
  unfolding first_at
  passed_none from [] e = λ k inside fault. omega arith
  passed_none from (part ∷ more) e = go (faulty part) refl e (passed_none (from + 1) more)
    where
      go : (t : Bool) → faulty part ≡ t → pick t (Err (plan_place from)) (first_at faulty (from + 1) more) ≡ Ok tt
          → (first_at faulty (from + 1) more ≡ Ok tt → AtNone Faulty more) → AtNone Faulty (part ∷ more)
      go true fault e ih = absurd (not_passed e)
      go false sound e ih = none_more part more (dec.is_not part sound) (ih e)

  none_passed : (from : ℕ) (parts : List Part) → AtNone Faulty parts → first_at faulty from parts ≡ Ok tt
  unfolding first_at
  none_passed from [] none = refl
  none_passed from (part ∷ more) none = go (faulty part) refl (none_passed (from + 1) more (λ k inside. none (suc k) (omega arith)))
    where
      go : (t : Bool) → faulty part ≡ t → first_at faulty (from + 1) more ≡ Ok tt
          → pick t (Err (plan_place from)) (first_at faulty (from + 1) more) ≡ Ok tt
      go true fault e = absurd (none 0 (omega arith) (dec.is part fault))
      go false sound e = e

  first_iff : (at : ℕ) (parts : List Part) → Iff (first_at faulty 0 parts ≡ Err (plan_place at)) (FirstAt Faulty parts at)
  first_iff at parts = (
    (λ e.
        let r = is_first 0 at parts e in
        let same : r.0 ≡ at = let sum = r.1 in omega arith in
        subst (FirstAt Faulty parts) same r.2),
    λ first. first_is 0 at parts first ∙ ap (λ (n : ℕ). Err (plan_place n)) (let sum : 0 + at ≡ at = omega arith in sum),
  )

  nowhere_iff : (parts : List Part) → Iff (first_at faulty 0 parts ≡ Ok tt) (AtNone Faulty parts)
  nowhere_iff parts = (passed_none 0 parts, none_passed 0 parts)

-- 17
outside_decides : (store : ℕ) → Decides (is_outside store) (Outside store)
unfolding is_outside
outside_decides store =
    record {
      is = λ part e. ltb-true _ _ e;
      is_not = λ part e fault. let fits = inside_is store part e in omega arith;
    }

-- 18
wrong_is : (part : Part) → is_wrong_size part ≡ true → WrongSize part
unfolding is_wrong_size
wrong_is part = go (least_payload_of part.number) refl
  where
    either : (a : Bool) {b : Bool} → (a || b) ≡ true → (a ≡ true) ⊎ (b ≡ true)
    either true e = inl refl
    either false e = inr e

    go : (known : Option ℕ) → least_payload_of part.number ≡ known → is_wrong_size part ≡ true → WrongSize part
    go (Some least) kind e =
        ⊎_elim
        (λ short. inl (record { least = least; of_kind = kind; under = ltb-true _ _ short }))
        (λ long. inr (ltb-true _ _ long))
        (either (ltb part.length least) (rw kind at e))
    go None kind e = inr (ltb-true _ _ (rw kind at e))

not_wrong : (part : Part) → is_wrong_size part ≡ false → WrongSize part → ⊥
not_wrong part e =
    ⊎_elim
    (λ short. let size = (sized_is part short.of_kind e).0 in let under = short.under in omega arith)
    (λ long. let fits = not_long part e in omega arith)

size_decides : Decides is_wrong_size WrongSize
size_decides = record { is = wrong_is; is_not = not_wrong }

pub outside_iff : (store at : ℕ) (parts : List Part)
    → Iff (first_at (is_outside store) 0 parts ≡ Err (plan_place at)) (FirstAt (Outside store) parts at)
outside_iff store = first_iff (is_outside store) (Outside store) (outside_decides store)

pub inside_iff : (store : ℕ) (parts : List Part) → Iff (first_at (is_outside store) 0 parts ≡ Ok tt) (AtNone (Outside store) parts)
inside_iff store = nowhere_iff (is_outside store) (Outside store) (outside_decides store)

pub wrong_iff : (at : ℕ) (parts : List Part) → Iff (first_at is_wrong_size 0 parts ≡ Err (plan_place at)) (FirstAt WrongSize parts at)
wrong_iff = first_iff is_wrong_size WrongSize size_decides

pub sized_iff : (parts : List Part) → Iff (first_at is_wrong_size 0 parts ≡ Ok tt) (AtNone WrongSize parts)
sized_iff = nowhere_iff is_wrong_size WrongSize size_decides
