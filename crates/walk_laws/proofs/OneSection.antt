-- A well-read section stops the walk or is passed exactly when its rows say so.
use Prim.Native.Nat.{ℕ, ◌+◌}
use native.Mathlib.Omega.{arith}
use mathlib.Core.Path.{◌≡◌, refl, sym, subst}
use mathlib.Core.Bool.{false}
use mathlib.Core.List.{List, []}
use mathlib.Core.Logic.{inl, inr, ⊎_elim}
use lib.Dec.{leb, eqb}
use borrow.Author.Tests.{leb-true, leb-false, eqb-true, eqb-false}
use Rattle.octets.specs.Words.{pick, Not}
use Rattle.framing.specs.declared.read.Section.{Section}
use Rattle.framing.proofs.Tests.{by_test, never_both}
use Rattle.order.specs.Order.{judged, completes}
use Rattle.order.specs.declared.Order.{Order}
use Rattle.order.specs.declared.Order.TheVariants.{
  BetweenMessages,
  AfterIndicator,
  AfterIdentification,
  AfterLocalUse,
  AfterGrid,
  AfterProduct,
  AfterRepresentation,
  AfterBitMap,
  AfterData,
  SubmessageStart,
}
use Rattle.order.specs.declared.Judged.{Judged}
use Rattle.order.specs.declared.Judged.TheVariants as says
use Rattle.order.proofs.Laws.{apart, completes_only, completes_there, starts_next}
use Rattle.index.specs.declared.line.Line.{Line}
use Rattle.index.specs.Numbers.{refusal_number, refusal_detail}
use Rattle.index.specs.declared.refusal.Refusal.{Refusal}
use Rattle.index.specs.declared.bounds.Room.{Room}
use Rattle.index.specs.Walk.{Reached, Judgement, stops, passes, here, fitted, closing, by_order, gone_on, judgement}
use Rattle.walk_laws.specs.Rows.{Rows, FirstRow, NoRow}
use Rattle.walk_laws.specs.ExactlyWhen.{
  CanCome,
  NoGridYet,
  GoesOn,
  ClosesMessage,
  Stand,
  LinesFull,
  rows_after_read,
  order_after,
  lines_behind,
}
use Rattle.walk_laws.proofs.Rows.{first_same, first_holds}

-- what stands before a read, of what is reached there
abbrev pub stand_of : ℕ → ℕ → Reached → Stand
stand_of at rest r =
    record {
      at = at;
      rest = rest;
      sections = r.sections;
      lines = r.lines;
      order = r.order;
      last = r.last.section.offset.0;
    }

-- what the order's answer says of what may come next
pub data Stands (order : Order) (n : ℕ) : Judged → Type 0 where
  fits : {next : Order} → next ≡ order_after n → CanCome order n → Not (NoGridYet order n) → Not (ClosesMessage order n)
      → Stands order n (says.Fits next)
  closes : CanCome order n → Not (NoGridYet order n) → ClosesMessage order n → Stands order n says.Closes
  misplaced : Not (CanCome order n) → Not (NoGridYet order n) → Stands order n says.Misplaced
  no_grid : NoGridYet order n → Stands order n says.NoGrid

-- where one number alone fits
stands_only : (at next : Order) (n k : ℕ) → next ≡ order_after k → (n ≡ k → CanCome at n) → (CanCome at n → n ≡ k)
    → Not (at ≡ AfterIdentification) → Not (at ≡ AfterData) → Stands at n (pick (eqb n k) (says.Fits next) says.Misplaced)
stands_only at next n k leads is only first last =
    by_test (Stands at n) (eqb n k)
    (λ e. let z = eqb-true n k e in fits (rw z leads) (is z) (λ h. first h.0) (λ h. last h.0)) λ e.
    misplaced (λ h. eqb-false n k e (only h)) (λ h. first h.0)

pub stands : (at : Order) (n : ℕ) → Stands at n (judged at n)
unfolding judged
stands BetweenMessages n = stands_only BetweenMessages AfterIndicator n 0 refl (λ e. e) (λ e. e) (apart (λ e. cc)) (apart (λ e. cc))
stands AfterIndicator n = stands_only AfterIndicator AfterIdentification n 1 refl (λ e. e) (λ e. e) (apart (λ e. cc)) (apart (λ e. cc))
stands AfterLocalUse n = stands_only AfterLocalUse AfterGrid n 3 refl (λ e. e) (λ e. e) (apart (λ e. cc)) (apart (λ e. cc))
stands AfterGrid n = stands_only AfterGrid AfterProduct n 4 refl (λ e. e) (λ e. e) (apart (λ e. cc)) (apart (λ e. cc))
stands AfterProduct n = stands_only AfterProduct AfterRepresentation n 5 refl (λ e. e) (λ e. e) (apart (λ e. cc)) (apart (λ e. cc))
stands AfterRepresentation n = stands_only AfterRepresentation AfterBitMap n 6 refl (λ e. e) (λ e. e) (apart (λ e. cc)) (apart (λ e. cc))
stands AfterBitMap n = stands_only AfterBitMap AfterData n 7 refl (λ e. e) (λ e. e) (apart (λ e. cc)) (apart (λ e. cc))
stands AfterIdentification n =
    let ajar : Not (ClosesMessage AfterIdentification n) = λ h. apart (λ e. cc) h.0 in
    by_test (Stands AfterIdentification n) (eqb n 2)
    (λ e. let z = eqb-true n 2 e in fits (rw z refl) (inl z) (λ h. omega (arith, h.1)) ajar) λ e2.
    by_test (Stands AfterIdentification n) (eqb n 3)
    (λ e. let z = eqb-true n 3 e in fits (rw z refl) (inr z) (λ h. omega (arith, h.1)) ajar) λ e3.
    by_test (Stands AfterIdentification n) (eqb n 4) (λ e. no_grid (refl, eqb-true n 4 e)) λ e4.
    misplaced (⊎_elim (eqb-false n 2 e2) (eqb-false n 3 e3)) (λ h. eqb-false n 4 e4 h.1)
stands AfterData n =
    let grid : Not (NoGridYet AfterData n) = λ h. apart (λ e. cc) h.0 in
    by_test (Stands AfterData n) (eqb n 8) (λ e. closes (inl (eqb-true n 8 e)) grid (refl, eqb-true n 8 e)) λ e8.
    let ajar : Not (ClosesMessage AfterData n) = λ h. eqb-false n 8 e8 h.1 in
    by_test (Stands AfterData n) (eqb n 2) (λ e. let z = eqb-true n 2 e in fits (rw z refl) (inr (inl z)) grid ajar) λ e2.
    by_test (Stands AfterData n) (eqb n 3) (λ e. let z = eqb-true n 3 e in fits (rw z refl) (inr (inr (inl z))) grid ajar) λ e3.
    by_test (Stands AfterData n) (eqb n 4) (λ e. let z = eqb-true n 4 e in fits (rw z refl) (inr (inr (inr z))) grid ajar) λ e4.
    misplaced (⊎_elim (eqb-false n 8 e8) (⊎_elim (eqb-false n 2 e2) (⊎_elim (eqb-false n 3 e3) (eqb-false n 4 e4)))) grid
stands SubmessageStart n =
    let grid : Not (NoGridYet SubmessageStart n) = λ h. apart (λ e. cc) h.0 in
    let ajar : Not (ClosesMessage SubmessageStart n) = λ h. apart (λ e. cc) h.0 in
    by_test (Stands SubmessageStart n) (eqb n 2) (λ e. let z = eqb-true n 2 e in fits (rw z refl) (inl z) grid ajar) λ e2.
    by_test (Stands SubmessageStart n) (eqb n 3) (λ e. let z = eqb-true n 3 e in fits (rw z refl) (inr (inl z)) grid ajar) λ e3.
    by_test (Stands SubmessageStart n) (eqb n 4) (λ e. let z = eqb-true n 4 e in fits (rw z refl) (inr (inr z)) grid ajar) λ e4.
    misplaced (⊎_elim (eqb-false n 2 e2) (⊎_elim (eqb-false n 3 e3) (eqb-false n 4 e4))) grid

-- behind a section that completes nothing and closes nothing no line is told
no_line : (order : Order) (n lines : ℕ) → completes order n ≡ false → Not (ClosesMessage order n) → lines_behind order lines ≡ lines
no_line BetweenMessages n lines off ajar = refl
no_line AfterIndicator n lines off ajar = refl
no_line AfterIdentification n lines off ajar = refl
no_line AfterLocalUse n lines off ajar = refl
no_line AfterGrid n lines off ajar = refl
no_line AfterProduct n lines off ajar = refl
no_line AfterRepresentation n lines off ajar = refl
no_line AfterBitMap n lines off ajar = refl
no_line AfterData n lines off ajar = absurd (never_both (completes_there n (λ z. ajar (refl, z))) off)
no_line SubmessageStart n lines off ajar = refl

-- what is reached by a section that is passed
pub record Arrives (r : Reached) (s : Section) (reached : Reached) : Type 0 where
  pub one : reached.sections ≡ r.sections + 1
  pub lines : reached.lines ≡ lines_behind r.order r.lines
  pub order : reached.order ≡ order_after s.number
  pub last : reached.last ≡ here r s

-- all that a judgement can be
pub data Judges (room : Room) (r : Reached) (s : Section) : Judgement → Type 0 where
  halts : {lines : List Line} {why : Refusal}
      → FirstRow (rows_after_read room (stand_of 0 0 r) s.number) (refusal_number why) (refusal_detail why)
      → Judges room r s (stops lines why)
  goes : {lines : List Line} {closed : ℕ} {reached : Reached} → NoRow (rows_after_read room (stand_of 0 0 r) s.number)
      → Arrives r s reached
      → Judges room r s (passes lines closed reached)

module _ (room : Room) (r : Reached) (s : Section) where
  abbrev J : Judgement → Type 0
  J = Judges room r s

  abbrev after_read : Rows
  after_read = rows_after_read room (stand_of 0 0 r) s.number

  -- where no line of a submessage that goes on is due, or there is room for it
  module _ (no14 : Not (GoesOn r.order s.number × LinesFull room (stand_of 0 0 r))) (r' : Reached) (same : r'.sections ≡ r.sections)
      (due : ClosesMessage r.order s.number → r'.lines ≡ r.lines)
      (told : Not (ClosesMessage r.order s.number) → r'.lines ≡ lines_behind r.order r.lines) where
    judges_order : (j : Judged) (lines : List Line) → Stands r.order s.number j → J (by_order j room r' s lines)
    unfolding by_order fitted closing refusal_number refusal_detail
    judges_order (says.Fits next) lines (fits leads can grid ajar) =
        by_test J (leb room.rows r'.sections)
        (λ e. let k = leb-true room.rows r'.sections e in
        halts (inr (no14, inr (grid, inr ((λ no. no can), inl (omega arith, refl, refl)))))) λ e.
        let k = leb-false room.rows r'.sections e in
        goes (no14, (grid, ((λ no. no can), ((λ full. omega arith), ((λ h. ajar h.0), tt)))))
        (record { one = omega arith; lines = told ajar; order = leads; last = rw same refl })
    judges_order says.Closes lines (closes can grid shut) =
        let lines = due shut in
        by_test J (leb room.rows r'.sections)
        (λ e. let k = leb-true room.rows r'.sections e in
        halts (inr (no14, inr (grid, inr ((λ no. no can), inl (omega arith, refl, refl)))))) λ e.
        let k = leb-false room.rows r'.sections e in
        by_test J (leb room.lines r'.lines)
        (λ f. let m = leb-true room.lines r'.lines f in
        halts
        (inr (no14, inr (grid, inr ((λ no. no can), inr ((λ full. omega arith), inl ((shut, omega arith), refl, refl))))))) λ f.
        let m = leb-false room.lines r'.lines f in
        goes (no14, (grid, ((λ no. no can), ((λ full. omega arith), ((λ h. let full = h.1 in omega arith), tt)))))
        (record { one = omega arith; lines = rw shut.0 (omega arith); order = rw shut.1 refl; last = rw same refl })
    judges_order says.Misplaced lines (misplaced can't grid) = halts (inr (no14, inr (grid, inl (can't, refl, refl))))
    judges_order says.NoGrid lines (no_grid grid) = halts (inr (no14, inl (grid, refl, refl)))

  pub judges : J (judgement room r s)
  unfolding judgement refusal_number refusal_detail
  judges =
      by_test J (completes r.order s.number)
      (λ e.
      let on = completes_only r.order s.number e in
      by_test J (leb room.lines r.lines) (λ f. halts (inl ((on, leb-true _ _ f), refl, refl))) λ f.
      let m = leb-false room.lines r.lines f in
      let as-start : judged r.order s.number ≡ judged SubmessageStart s.number =
      rw on.0 (starts_next s.number on.1) in
      judges_order (λ h. let full = h.1 in omega arith) (gone_on r) refl (λ shut. absurd (on.1 shut.1)) (λ ajar. rw on.0 refl)
      (judged SubmessageStart s.number) _
      (subst (Stands r.order s.number) as-start (stands r.order s.number)))
      λ e.
      judges_order
      (λ h. never_both (completes_there s.number h.0.1) (subst (λ (o : Order). completes o s.number ≡ false) h.0.0 e))
      r refl (λ shut. refl) (λ ajar. sym (no_line r.order s.number r.lines e ajar))
      (judged r.order s.number) [] (stands r.order s.number)

  -- a section that stops the walk, with its number and detail
  pub record Stopped (n d : ℕ) : Type 0 where
    pub lines : List Line
    pub why : Refusal
    pub halts : judgement room r s ≡ stops lines why
    pub numbered : n ≡ refusal_number why
    pub detailed : d ≡ refusal_detail why

  -- the rows say how a section is judged
  pub stopped_there : (n d : ℕ) → FirstRow after_read n d → Stopped n d
  stopped_there n d v = go (judgement room r s) refl judges
    where
      go : (j : Judgement) → judgement room r s ≡ j → J j → Stopped n d
      go _ e (halts {lines} {why} first) =
          let same = first_same after_read n d (refusal_number why) (refusal_detail why) v first in
          record { lines = lines; why = why; halts = e; numbered = same.0; detailed = same.1 }
      go _ e (goes none arrives) = absurd (first_holds after_read n d v none)

  pub record PassesOn : Type 0 where
    pub lines : List Line
    pub closed : ℕ
    pub reached : Reached
    pub goes : judgement room r s ≡ passes lines closed reached
    pub arrives : Arrives r s reached

  pub passed_there : NoRow after_read → PassesOn
  passed_there v = go (judgement room r s) refl judges
    where
      go : (j : Judgement) → judgement room r s ≡ j → J j → PassesOn
      go _ e (halts {why = why} first) = absurd (first_holds after_read (refusal_number why) (refusal_detail why) first v)
      go _ e (goes {lines} {closed} {reached} none arrives) =
          record { lines = lines; closed = closed; reached = reached; goes = e; arrives = arrives }
