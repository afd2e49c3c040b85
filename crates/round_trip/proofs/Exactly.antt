-- Each answer of the writer is given exactly when 01 says so: 15 to 19 and success.
use Rattle.std.specs.Prelude.{Result, Ok, Err}
use Prim.Native.Nat.{ℕ, ◌≤◌, ◌<◌}
use native.Mathlib.Omega.{arith}
use mathlib.Core.Path.{◌≡◌, refl, sym, ap, subst}
use mathlib.Core.Bool.{Bool, true, false}
use mathlib.Core.List.{List}
use mathlib.Core.Logic.{inl, inr, ⊎_elim}
use lib.Dec.{ltb}
use lib.ListN.{length}
use borrow.Author.Tests.{ltb-true, ltb-false, lt-ltb, le-ltb}
use Rattle.octets.specs.Words.{pick, Iff}
use Rattle.framing.proofs.Tests.{by_test}
use Rattle.index.specs.Bounds.{most_octets}
use Rattle.writer.specs.Plan.{Part, Finding, most_sections, plan_place, parts_of, misfit, first_at, is_outside, is_wrong_size, total_of, unless, judged_plan}
use Rattle.writer.specs.Write.{write_of}
use Rattle.round_trip.specs.Faults.{FirstAt, AtNone, OneMessage, FirstMisfit, Outside, WrongSize, TooLarge}
use Rattle.round_trip.proofs.First.{outside_iff, inside_iff, wrong_iff, sized_iff}
use Rattle.round_trip.proofs.Ordered.{misfit_iff, message_iff, not_one_iff}
use Rattle.writer.specs.declared.WriteRefusal.TheVariants.{TooManySections, NotOneMessage, OutsideStore, PayloadSize, NoRoom}
use Rattle.writer.specs.declared.WriteRefusal.{WriteRefusal}

-- 01's column "Given exactly when", of a plan with a store and a destination of so many octets: a
-- check is made where all before it passed
abbrev pub GivenWhen : List Part → ℕ → ℕ → Result ℕ WriteRefusal → Type 0
GivenWhen parts store room (Err TooManySections) = most_sections < length parts
GivenWhen parts store room (Err (NotOneMessage at)) =
    (length parts ≤ most_sections) × FirstMisfit parts at.0
GivenWhen parts store room (Err (OutsideStore at)) =
    (length parts ≤ most_sections) × OneMessage parts × FirstAt (Outside store) parts at.0
GivenWhen parts store room (Err (PayloadSize at)) =
    (length parts ≤ most_sections) × OneMessage parts × AtNone (Outside store) parts
    × FirstAt WrongSize parts at.0
GivenWhen parts store room (Err NoRoom) =
    (length parts ≤ most_sections) × OneMessage parts × AtNone (Outside store) parts
    × AtNone WrongSize parts × TooLarge parts room
GivenWhen parts store room (Ok total) =
    (length parts ≤ most_sections) × OneMessage parts × AtNone (Outside store) parts
    × AtNone WrongSize parts × (total_of parts ≤ room) × (total_of parts ≤ most_octets)
    × (total ≡ total_of parts)

module _ (parts : List Part) (store room : ℕ) where
  abbrev Given : Result ℕ WriteRefusal → Type 0
  Given = GivenWhen parts store room

  -- 19, and success
  abbrev ending : Result ℕ WriteRefusal
  ending = pick (ltb room (total_of parts)) (Err NoRoom) (pick (ltb most_octets (total_of parts)) (Err NoRoom) (Ok (total_of parts)))

  abbrev from_18 : Finding → Result ℕ WriteRefusal
  from_18 c = unless c PayloadSize ending

  abbrev from_17 : Finding → Result ℕ WriteRefusal
  from_17 c = unless c OutsideStore (from_18 (first_at is_wrong_size 0 parts))

  abbrev from_16 : Finding → Result ℕ WriteRefusal
  from_16 c = unless c NotOneMessage (from_17 (first_at (is_outside store) 0 parts))

  -- what is answered is due
  given : Given (judged_plan parts store room)
  unfolding judged_plan
  given =
      by_test Given (ltb most_sections (length parts)) (λ e. ltb-true _ _ e) λ e.
      given_16 (ltb-false most_sections (length parts) e) (misfit parts) refl
    where
      given_18 : length parts ≤ most_sections → OneMessage parts → AtNone (Outside store) parts → (c : Finding) → first_at is_wrong_size 0 parts ≡ c
          → Given (from_18 c)
      given_18 few one inside (Err at) e = (few, one, inside, (wrong_iff at.0 parts).0 e)
      given_18 few one inside (Ok tt) e =
          let sized = (sized_iff parts).0 e in
          by_test Given (ltb room (total_of parts)) (λ x. (few, one, inside, sized, inl (ltb-true _ _ x))) λ x.
          by_test Given (ltb most_octets (total_of parts)) (λ y. (few, one, inside, sized, inr (ltb-true _ _ y))) λ y.
          (few, one, inside, sized, ltb-false _ _ x, ltb-false _ _ y, refl)

      given_17 : length parts ≤ most_sections → OneMessage parts → (c : Finding) → first_at (is_outside store) 0 parts ≡ c → Given (from_17 c)
      given_17 few one (Err at) e = (few, one, (outside_iff store at.0 parts).0 e)
      given_17 few one (Ok tt) e = given_18 few one ((inside_iff store parts).0 e) (first_at is_wrong_size 0 parts) refl

      given_16 : length parts ≤ most_sections → (c : Finding) → misfit parts ≡ c → Given (from_16 c)
      given_16 few (Err at) e = (few, (misfit_iff at.0 parts).0 e)
      given_16 few (Ok tt) e = given_17 few ((message_iff parts).0 e) (first_at (is_outside store) 0 parts) refl

  -- and what is due is answered
  due : (w : Result ℕ WriteRefusal) → Given w → judged_plan parts store room ≡ w
  unfolding judged_plan
  due (Err TooManySections) over = rw (lt-ltb most_sections (length parts) over)
  due (Err (NotOneMessage at)) g = rw (le-ltb most_sections (length parts) g.0, (misfit_iff at.0 parts).1 g.1)
  due (Err (OutsideStore at)) g =
      rw (le-ltb most_sections (length parts) g.0, (message_iff parts).1 g.1, (outside_iff store at.0 parts).1 g.2)
  due (Err (PayloadSize at)) g =
      rw (
        le-ltb most_sections (length parts) g.0,
        (message_iff parts).1 g.1,
        (inside_iff store parts).1 g.2,
        (wrong_iff at.0 parts).1 g.3,
      )
  due (Err NoRoom) g =
      rw (le-ltb most_sections (length parts) g.0, (message_iff parts).1 g.1, (inside_iff store parts).1 g.2, (sized_iff parts).1 g.3)
      (too_large (ltb room (total_of parts)) (ltb most_octets (total_of parts)) refl refl g.4)
    where
      too_large : (a b : Bool) → ltb room (total_of parts) ≡ a → ltb most_octets (total_of parts) ≡ b → TooLarge parts room
          → pick a (Err NoRoom) (pick b (Err NoRoom) (Ok (total_of parts))) ≡ Err NoRoom
      too_large true b x y large = refl
      too_large false true x y large = refl
      too_large false false x y large =
          let fits = ltb-false room (total_of parts) x in
          let small = ltb-false most_octets (total_of parts) y in
          absurd (⊎_elim (λ over. omega arith) (λ over. omega arith) large)
  due (Ok total) g =
      rw (
        le-ltb most_sections (length parts) g.0,
        (message_iff parts).1 g.1,
        (inside_iff store parts).1 g.2,
        (sized_iff parts).1 g.3,
        le-ltb room (total_of parts) g.4,
        le-ltb most_octets (total_of parts) g.5,
      )
      (ap Ok (sym g.6))

-- a call's answer
module _ (discipline reserved₁ reserved₂ : ℕ) (plan store dest : List ℕ) where
  abbrev answer : Result ℕ WriteRefusal
  answer = (write_of discipline reserved₁ reserved₂ plan store dest).answer

  abbrev parts : List Part
  parts = parts_of plan

  pub exactly : (w : Result ℕ WriteRefusal) → Iff (answer ≡ w) (GivenWhen parts (length store) (length dest) w)
  unfolding write_of
  exactly w = (
    (λ e. subst (GivenWhen parts (length store) (length dest)) e (given parts (length store) (length dest))),
    due parts (length store) (length dest) w,
  )

  -- 15: the plan has over 4,096 sections
  pub exactly_15 : Iff (answer ≡ Err TooManySections) (most_sections < length parts)
  exactly_15 = exactly (Err TooManySections)

  -- 16: its numbers, with 0 before and 8 after, are not one message
  pub exactly_16_some : Iff ((at : ℕ) × (answer ≡ Err (NotOneMessage (plan_place at)))) ((length parts ≤ most_sections) × (OneMessage parts → ⊥))
  exactly_16_some = (
    (λ s. let g = (exactly (Err (NotOneMessage (plan_place s.0)))).0 s.1 in (g.0, (not_one_iff parts).0 (s.0, g.1))),
    λ h. let m = (not_one_iff parts).1 h.1 in (m.0, (exactly (Err (NotOneMessage (plan_place m.0)))).1 (h.0, m.1)),
  )

  -- and the place is that of the first that misfits
  pub exactly_16 : (at : ℕ) → Iff (answer ≡ Err (NotOneMessage (plan_place at))) ((length parts ≤ most_sections) × FirstMisfit parts at)
  exactly_16 at = exactly (Err (NotOneMessage (plan_place at)))

  -- 17: a payload part's offset plus length is over the store's length; the first such
  pub exactly_17 : (at : ℕ)
      → Iff (answer ≡ Err (OutsideStore (plan_place at))) ((length parts ≤ most_sections) × OneMessage parts × FirstAt (Outside (length store)) parts at)
  exactly_17 at = exactly (Err (OutsideStore (plan_place at)))

  -- 18: a payload is under its least or over 4,294,967,290; the first such
  pub exactly_18 : (at : ℕ)
      → Iff (answer ≡ Err (PayloadSize (plan_place at)))
      ((length parts ≤ most_sections) × OneMessage parts × AtNone (Outside (length store)) parts × FirstAt WrongSize parts at)
  exactly_18 at = exactly (Err (PayloadSize (plan_place at)))

  -- 19: the destination is shorter than the message, or the message over 2^40 octets
  pub exactly_19 :
      Iff (answer ≡ Err NoRoom)
      ((length parts ≤ most_sections) × OneMessage parts × AtNone (Outside (length store)) parts × AtNone WrongSize parts
      × TooLarge parts (length dest))
  exactly_19 = exactly (Err NoRoom)

  -- success: none of these, and the total is the message's
  pub exactly_whole : (total : ℕ)
      → Iff (answer ≡ Ok total)
      ((length parts ≤ most_sections) × OneMessage parts × AtNone (Outside (length store)) parts × AtNone WrongSize parts
      × (total_of parts ≤ length dest) × (total_of parts ≤ most_octets) × (total ≡ total_of parts))
  exactly_whole total = exactly (Ok total)
