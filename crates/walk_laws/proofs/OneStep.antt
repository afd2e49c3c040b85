-- One read, one judgement and a bare list of numbers, in numbers.
use Rattle.std.specs.Prelude.{Result, Ok, Err, ⊤}
use Prim.Native.Nat.{ℕ, ◌+◌, ◌-◌}
use native.Mathlib.Omega.{arith}
use mathlib.Core.Path.{◌≡◌, refl, sym, ap, subst, ◌∙◌}
use mathlib.Core.Bool.{Bool, true, false}
use mathlib.Core.List.{List, [], ◌∷◌, ◌++◌, append_assoc, append-nil}
use mathlib.Core.Logic.{inl, ⊎_elim}
use lib.ListN.{length, get_or, length-append}
use lib.Seq.{get_or-append-add}
use native.Mathlib.Nat.{add-zero}
use Rattle.octets.specs.Words.{pick, Not, Iff}
use Rattle.framing.specs.LaidOut.{section_of}
use Rattle.framing.specs.Framing.{read_at}
use Rattle.framing.specs.Read.{Read}
use Rattle.order.specs.Order.{judged, is_between, then_judged, order_from, order_of}
use Rattle.order.specs.declared.Order.{Order}
use Rattle.order.specs.declared.Order.TheVariants.{BetweenMessages}
use Rattle.order.specs.declared.Judged.{Judged}
use Rattle.order.proofs.Laws.{Said, said, not_between}
use Rattle.index.specs.Numbers.{fault_number, fault_detail}
use Rattle.walk_laws.specs.ExactlyWhen.{CannotBeRead, WellRead, NoneInHand, CanCome, NoGridYet, ClosesMessage, order_after}
use Rattle.walk_laws.specs.OneStep.{a_section, no_input, refused_by, read_numbers, fits_before, judged_numbers, JudgedByRows, OrderEnd, order_end, order_end_of, ComeInOrder, no_number, one_more, OrderGiven, in_order, over_inside, misplaced_there, no_grid_there, ReadByRows, OneStepExactlyWhen}
use Rattle.walk_laws.proofs.OneRead.{Tells, refuses, reads, over, tells, unreadable_refused, section_there, none_read}
use Rattle.walk_laws.proofs.OneSection.{Stands, fits, closes, misplaced, no_grid, stands}
use Rattle.order.specs.declared.Disorder.TheVariants.{InputOver, Misplaced, NoGrid}
use Rattle.order.specs.declared.Disorder.{Disorder}

pub one_read : (file : List ℕ) (at rest : ℕ) → ReadByRows file at rest (read_numbers (read_at file at rest))
unfolding read_numbers
one_read file at rest =
    record {
      refuses = λ n offset d. (
        refused (read_at file at rest) (tells file at rest),
        λ u.
            let k = unreadable_refused file at rest n offset d u in
            ap read_numbers k.refuses ∙ rw (← k.numbered, ← k.detailed) refl,
      );
      reads = λ number offset octets next rest'. (
        section (read_at file at rest) (tells file at rest),
        λ h.
            ap read_numbers (section_there file at rest (section_of number offset octets) rest' h.0) ∙ rw h.1 refl,
      );
      ends = (ended (read_at file at rest) (tells file at rest), λ none. ap read_numbers (none_read file at rest none));
    }
  where
    refused : {n offset d : ℕ} (x : Read) → Tells file at rest x → read_numbers x ≡ refused_by n offset d → CannotBeRead file at rest n offset d
    refused {n} {offset} {d} _ (refuses {fault} {o} u) e =
        let a : fault_number fault ≡ n = cc in
        let b : o ≡ offset = cc in
        let c : fault_detail fault ≡ d = cc in
        rw (← a, ← b, ← c) u
    refused _ (reads w) e = let z : ◌≡◌ {A = ℕ} 0 1 = cc in absurd (omega arith)
    refused _ (over none) e = let z : ◌≡◌ {A = ℕ} 0 1 = cc in absurd (omega arith)

    section : {number offset octets next rest' : ℕ} (x : Read) → Tells file at rest x
        → read_numbers x ≡ a_section number offset octets next rest'
        → WellRead file at rest (section_of number offset octets) rest' × (next ≡ offset + octets)
    section _ (refuses u) e = let z : ◌≡◌ {A = ℕ} 0 1 = cc in absurd (omega arith)
    section {number} {offset} {octets} {next} {rest'} _ (reads {s} {rest' = left} w) e =
        let a : s.number ≡ number = cc in
        let b : s.offset.0 ≡ offset = cc in
        let c : s.length ≡ octets = cc in
        let d : s.offset.0 + s.length ≡ next = cc in
        let f : left ≡ rest' = cc in
        (rw (← a, ← b, ← c, ← f) w, omega arith)
    section _ (over none) e = let z : ◌≡◌ {A = ℕ} 0 1 = cc in absurd (omega arith)

    ended : (x : Read) → Tells file at rest x → read_numbers x ≡ no_input → NoneInHand file at rest
    ended _ (refuses u) e = let z : ◌≡◌ {A = ℕ} 0 1 = cc in absurd (omega arith)
    ended _ (reads w) e = let z : ◌≡◌ {A = ℕ} 0 1 = cc in absurd (omega arith)
    ended _ (over none) e = none

-- a 4 right after 1 can't come
no_grid_can't : (order : Order) (n : ℕ) → NoGridYet order n → CanCome order n → ⊥
no_grid_can't order n (after, four) can = ⊎_elim (λ z. omega arith) (λ z. omega arith) (subst (λ (o : Order). CanCome o n) after can)

-- an 8 after a 7 can
closes_can : (order : Order) (n : ℕ) → ClosesMessage order n → CanCome order n
closes_can order n (after, eight) = subst (λ (o : Order). CanCome o n) (sym after) (inl eight)

pub one_judgement : (order : Order) (number : ℕ) → JudgedByRows order number (judged_numbers (judged order number))
unfolding judged_numbers
one_judgement order number = go (judged order number) (stands order number)
  where
    go : (j : Judged) → Stands order number j → JudgedByRows order number (judged_numbers j)
    go _ (fits {next} leads can grid ajar) =
        record {
          fits = λ other. ((λ e. let same : next ≡ other = cc in (can, ajar, sym same ∙ leads)), λ h. ap fits_before (leads ∙ sym h.2));
          closes = ((λ e. let z : ◌≡◌ {A = ℕ} 0 1 = cc in absurd (omega arith)), λ shut. absurd (ajar shut));
          misplaced = ((λ e. let z : ◌≡◌ {A = ℕ} 0 1 = cc in absurd (omega arith)), λ h. absurd (h.0 can));
          no_grid = ((λ e. let z : ◌≡◌ {A = ℕ} 0 1 = cc in absurd (omega arith)), λ h. absurd (grid h));
        }
    go _ (closes can grid shut) =
        record {
          fits = λ other. ((λ e. let z : ◌≡◌ {A = ℕ} 0 1 = cc in absurd (omega arith)), λ h. absurd (h.1 shut));
          closes = ((λ e. shut), λ shut. refl);
          misplaced = ((λ e. let z : ◌≡◌ {A = ℕ} 0 1 = cc in absurd (omega arith)), λ h. absurd (h.0 can));
          no_grid = ((λ e. let z : ◌≡◌ {A = ℕ} 0 1 = cc in absurd (omega arith)), λ h. absurd (grid h));
        }
    go _ (misplaced can't grid) =
        record {
          fits = λ other. ((λ e. let z : ◌≡◌ {A = ℕ} 0 1 = cc in absurd (omega arith)), λ h. absurd (can't h.0));
          closes = ((λ e. let z : ◌≡◌ {A = ℕ} 0 1 = cc in absurd (omega arith)), λ shut. absurd (can't (closes_can order number shut)));
          misplaced = ((λ e. (can't, grid)), λ h. refl);
          no_grid = ((λ e. let z : ◌≡◌ {A = ℕ} 11 12 = cc in absurd (omega arith)), λ h. absurd (grid h));
        }
    go _ (no_grid grid) =
        let none = no_grid_can't order number grid in
        record {
          fits = λ other. ((λ e. let z : ◌≡◌ {A = ℕ} 0 1 = cc in absurd (omega arith)), λ h. absurd (none h.0));
          closes = ((λ e. let z : ◌≡◌ {A = ℕ} 0 1 = cc in absurd (omega arith)), λ shut. absurd (none (closes_can order number shut)));
          misplaced = ((λ e. let z : ◌≡◌ {A = ℕ} 11 12 = cc in absurd (omega arith)), λ h. absurd (h.1 grid));
          no_grid = ((λ e. grid), λ h. refl);
        }

-- a number that can come is passed
can_pass : (order : Order) (n place : ℕ) (later : Order → Result ⊤ Disorder) → CanCome order n
    → then_judged (judged order n) place later ≡ later (order_after n)
can_pass order n place later can = go (judged order n) (stands order n)
  where
    go : (j : Judged) → Stands order n j → then_judged j place later ≡ later (order_after n)
    go _ (fits leads _ grid ajar) = ap later leads
    go _ (closes _ grid shut) = rw shut.1 refl
    go _ (misplaced can't grid) = absurd (can't can)
    go _ (no_grid grid) = absurd (no_grid_can't order n grid can)

-- numbers in order lead to what was read last
runs : {before : List ℕ} {order : Order} → ComeInOrder before order → (more : List ℕ)
    → order_of (before ++ more) ≡ order_from order (length before) more
unfolding order_of order_from
runs no_number more = refl
runs (one_more {before} {order} number c can) more =
    ap order_of (append_assoc before (number ∷ []) more)
    ∙ runs c (number ∷ more)
    ∙ can_pass order number (length before) (λ next. order_from next (length before + 1) more) can
    ∙ ap (λ k. order_from (order_after number) k more) (sym (length-append before (number ∷ [])))

-- the number at the place behind those before it
at_place : (before after : List ℕ) (n : ℕ) → get_or (before ++ (n ∷ after)) (length before) 0 ≡ n
at_place before after n =
    subst (λ (k : ℕ). get_or (before ++ (n ∷ after)) k 0 ≡ n) (add-zero (length before)) (get_or-append-add before (n ∷ after) 0 0)

-- what is given of a list with these before, by what the order says from there on
abbrev GivenSo : List ℕ → Result ⊤ Disorder → Type 0
GivenSo numbers v = let e = order_end_of numbers v in OrderGiven numbers e.outcome e.place e.detail

from_there : (before more : List ℕ) (order : Order) → ComeInOrder before order → GivenSo (before ++ more) (order_from order (length before) more)
unfolding order_from order_end_of
from_there before [] order c =
    subst (λ (l : List ℕ). GivenSo l (order_from order (length before) [])) (sym (append-nil before)) (go (is_between order) (said order))
  where
    go : (t : Bool) → Said order t → GivenSo before (pick t (Ok tt) (Err InputOver))
    go true e = in_order (subst (ComeInOrder before) e c)
    go false e = over_inside c e (some c e)
      where
        some : {before : List ℕ} {order : Order} → ComeInOrder before order → Not (order ≡ BetweenMessages)
            → length before ≡ length before - 1 + 1
        some no_number e = absurd (e refl)
        some (one_more {before} number c can) e = let k = length-append before (number ∷ []) in omega arith
from_there before (n ∷ more) order c = go (judged order n) (stands order n) refl (from_there (before ++ (n ∷ [])) more)
  where
    passed : (next : Order) → next ≡ order_after n → CanCome order n
        → ((next : Order) → ComeInOrder (before ++ (n ∷ [])) next
        → GivenSo ((before ++ (n ∷ [])) ++ more) (order_from next (length (before ++ (n ∷ []))) more))
        → GivenSo (before ++ (n ∷ more)) (order_from next (length before + 1) more)
    passed next leads can later =
        subst (λ (k : ℕ). GivenSo (before ++ (n ∷ more)) (order_from next k more)) (length-append before (n ∷ []))
        (subst (λ (l : List ℕ). GivenSo l (order_from next (length (before ++ (n ∷ []))) more)) (append_assoc before (n ∷ []) more)
        (later next (subst (ComeInOrder (before ++ (n ∷ []))) (sym leads) (one_more n c can))))

    go : (j : Judged) → Stands order n j → judged order n ≡ j
        → ((next : Order) → ComeInOrder (before ++ (n ∷ [])) next
        → GivenSo ((before ++ (n ∷ [])) ++ more) (order_from next (length (before ++ (n ∷ []))) more))
        → GivenSo (before ++ (n ∷ more)) (then_judged j (length before) (λ next. order_from next (length before + 1) more))
    go j (misplaced can't grid) e later =
        subst (λ (d : ℕ). OrderGiven (before ++ (n ∷ more)) 11 (length before) d) (sym (at_place before more n))
        (misplaced_there before more n c can't grid)
    go j (no_grid grid) e later =
        subst (λ (d : ℕ). OrderGiven (before ++ (n ∷ more)) 12 (length before) d) (sym (at_place before more n))
        (no_grid_there before more n c grid)
    go j (fits {next} leads can grid ajar) e later = passed next leads can later
    go j (closes can grid shut) e later = passed BetweenMessages (rw shut.1 refl) can later

-- and the other way
ended : {numbers : List ℕ} {order : Order} → ComeInOrder numbers order → order_of numbers ≡ pick (is_between order) (Ok tt) (Err InputOver)
unfolding order_from
ended {numbers} c = ap order_of (sym (append-nil numbers)) ∙ runs c []

stopped_misplaced : (order : Order) (n place : ℕ) (later : Order → Result ⊤ Disorder) → Not (CanCome order n) → Not (NoGridYet order n)
    → then_judged (judged order n) place later ≡ Err (Misplaced (record { 0 = place }))
stopped_misplaced order n place later cannot no-12 = go (judged order n) (stands order n)
  where
    go : (j : Judged) → Stands order n j → then_judged j place later ≡ Err (Misplaced (record { 0 = place }))
    go _ (fits leads can grid ajar) = absurd (cannot can)
    go _ (closes can grid shut) = absurd (cannot can)
    go _ (misplaced can't grid) = refl
    go _ (no_grid grid) = absurd (no-12 grid)

stopped_no_grid : (order : Order) (n place : ℕ) (later : Order → Result ⊤ Disorder) → NoGridYet order n
    → then_judged (judged order n) place later ≡ Err (NoGrid (record { 0 = place }))
stopped_no_grid order n place later none = go (judged order n) (stands order n)
  where
    go : (j : Judged) → Stands order n j → then_judged j place later ≡ Err (NoGrid (record { 0 = place }))
    go _ (fits leads can grid ajar) = absurd (grid none)
    go _ (closes can grid shut) = absurd (grid none)
    go _ (misplaced can't grid) = absurd (grid none)
    go _ (no_grid grid) = refl

pub one_order : (numbers : List ℕ) (n p d : ℕ)
    → Iff (order_end_of numbers (order_of numbers) ≡ order_end n p d) (OrderGiven numbers n p d)
unfolding order_of order_end_of order_from is_between
one_order numbers n p d = (
  (λ e. subst (λ (x : OrderEnd). OrderGiven numbers x.outcome x.place x.detail) e
      (from_there [] numbers BetweenMessages no_number)),
  back numbers n p d,
)
  where
    back : (numbers : List ℕ) (n p d : ℕ) → OrderGiven numbers n p d → order_end_of numbers (order_of numbers) ≡ order_end n p d
    back numbers _ _ _ (in_order c) = ap (order_end_of numbers) (ended c)
    back numbers _ _ _ (over_inside {order = order} {last} c other count) =
        ap (order_end_of numbers) (ended c)
        ∙ rw (not_between order other) (ap (λ k. order_end 10 k 0) (let one : length numbers - 1 ≡ last = omega arith in one))
    back _ _ _ _ (misplaced_there before after number {order} c cannot grid) =
        ap (order_end_of (before ++ (number ∷ after)))
        (runs c (number ∷ after)
        ∙ stopped_misplaced order number (length before) (λ next. order_from next (length before + 1) after) cannot grid)
        ∙ ap (order_end 11 (length before)) (at_place before after number)
    back _ _ _ _ (no_grid_there before after number {order} c none) =
        ap (order_end_of (before ++ (number ∷ after)))
        (runs c (number ∷ after)
        ∙ stopped_no_grid order number (length before) (λ next. order_from next (length before + 1) after) none)
        ∙ ap (order_end 12 (length before)) (at_place before after number)

pub one_step_exactly_when : OneStepExactlyWhen
one_step_exactly_when = record { one_read = one_read; one_judgement = one_judgement; one_order = one_order }
