-- What is so of a section that is passed.
use Rattle.std.specs.Prelude.{Some, None}
use Prim.Native.Nat.{ℕ, ◌+◌, ◌≤◌, ◌<◌}
use native.Mathlib.Omega.{arith}
use mathlib.Core.Path.{◌≡◌, refl, subst}
use mathlib.Core.Bool.{true, false}
use mathlib.Core.List.{List, [], ◌∷◌}
use lib.Dec.{leb}
use lib.ListN.{length}
use borrow.Author.Tests.{leb-false}
use Rattle.framing.specs.declared.read.Section.{Section}
use Rattle.framing.proofs.Tests.{by_test}
use Rattle.order.specs.Order.{judged, completes, is_between}
use Rattle.order.specs.declared.Order.TheVariants.{AfterData, SubmessageStart}
use Rattle.order.specs.declared.Judged.{Judged}
use Rattle.order.specs.declared.Judged.TheVariants as says
use Rattle.order.proofs.Laws.{apart, fits_below, fits_open, closes_only, completes_only}
use Rattle.index.specs.Lines.{place, line_of}
use Rattle.index.specs.declared.line.Line.{Line}
use Rattle.index.specs.declared.refusal.Refusal.{Refusal}
use Rattle.index.specs.declared.bounds.Room.{Room}
use Rattle.index.specs.Walk.{Reached, Judgement, stops, passes, here, fitted, closing, by_order, gone_on, judgement}

-- a section inside its message, with the line of a submessage that goes on or with none; or the one that closes it
pub data Way (r : Reached) (s : Section) : List Line → ℕ → Reached → Type 0 where
  within : {reached : Reached} → s.number < 8 → is_between reached.order ≡ false → Way r s [] 0 reached
  gone_further : {line : Line} {reached : Reached} → s.number < 8 → is_between reached.order ≡ false → r.order ≡ AfterData
      → line.end ≡ None
      → Way r s (line ∷ []) 0 reached
  shut : {line : Line} {reached : Reached} → s.number ≡ 8 → is_between reached.order ≡ true → r.order ≡ AfterData
      → line.end ≡ Some (place r.sections)
      → Way r s (line ∷ []) 1 reached

-- a section that is refused has told a line of a submessage that goes on, or none
pub data Left (r : Reached) : List Line → Type 0 where
  nothing : Left r []
  one_line : {line : Line} → r.order ≡ AfterData → line.end ≡ None → Left r (line ∷ [])

pub record Halting (room : Room) (r : Reached) (lines : List Line) : Type 0 where
  pub held : r.lines ≤ room.lines → r.lines + length lines ≤ room.lines
  pub told : Left r lines

pub record Passing (room : Room) (r : Reached) (s : Section) (lines : List Line) (closed : ℕ) (reached : Reached) : Type 0 where
  pub row : r.sections < room.rows
  pub one : reached.sections ≡ r.sections + 1
  pub last : reached.last ≡ here r s
  pub counted : reached.lines ≡ r.lines + length lines
  pub held : r.lines ≤ room.lines → reached.lines ≤ room.lines
  pub few : length lines ≤ 1
  pub way : Way r s lines closed reached

abbrev pub IfPassed : Room → Reached → Section → Judgement → Type 0
IfPassed room r s (stops lines why) = Halting room r lines
IfPassed room r s (passes lines closed reached) = Passing room r s lines closed reached

module _ (room : Room) (r : Reached) (s : Section) where
  abbrev P : Judgement → Type 0
  P = IfPassed room r s

  silent : Halting room r []
  silent = record { held = λ h. omega arith; told = nothing }

  plain : completes r.order s.number ≡ false → (j : Judged) → judged r.order s.number ≡ j → P (by_order j room r s [])
  unfolding by_order fitted closing judgement line_of is_between
  plain off (says.Fits next) e =
      by_test P (leb room.rows r.sections) (λ f. silent) λ f.
      let row = leb-false room.rows r.sections f in
      record {
        row = row;
        one = refl;
        last = refl;
        counted = omega arith;
        held = λ h. h;
        few = omega arith;
        way = within (fits_below r.order s.number e) (fits_open r.order s.number e);
      }
  plain off says.Closes e =
      by_test P (leb room.rows r.sections) (λ f. silent) λ f.
      let row = leb-false room.rows r.sections f in
      by_test P (leb room.lines r.lines) (λ g. silent) λ g.
      let line = leb-false room.lines r.lines g in
      let k = closes_only r.order s.number e in
      record {
        row = row;
        one = refl;
        last = refl;
        counted = refl;
        held = λ h. omega arith;
        few = omega arith;
        way = shut k.1 refl k.0 refl;
      }
  plain off says.Misplaced e = silent
  plain off says.NoGrid e = silent

  spoken : completes r.order s.number ≡ true → r.lines < room.lines → Halting room r (line_of r.force None ∷ [])
  unfolding line_of
  spoken goes line = record { held = λ h. omega arith; told = one_line (completes_only r.order s.number goes).0 refl }

  going : completes r.order s.number ≡ true → r.lines < room.lines → (j : Judged) → judged SubmessageStart s.number ≡ j
      → P (by_order j room (gone_on r) s (line_of r.force None ∷ []))
  unfolding by_order fitted closing judgement line_of
  going goes line (says.Fits next) e =
      by_test P (leb room.rows r.sections) (λ f. spoken goes line) λ f.
      let row = leb-false room.rows r.sections f in
      record {
        row = row;
        one = refl;
        last = refl;
        counted = refl;
        held = λ h. omega arith;
        few = omega arith;
        way =
            gone_further (fits_below SubmessageStart s.number e) (fits_open SubmessageStart s.number e)
            (completes_only r.order s.number goes).0 refl;
      }
  going goes line says.Closes e = absurd (apart (λ z. cc) (closes_only SubmessageStart s.number e).0)
  going goes line says.Misplaced e = spoken goes line
  going goes line says.NoGrid e = spoken goes line

  pub if_passed : P (judgement room r s)
  unfolding judgement
  if_passed =
      by_test P (completes r.order s.number)
      (λ e. by_test P (leb room.lines r.lines) (λ f. silent) λ f.
      going e (leb-false room.lines r.lines f) (judged SubmessageStart s.number) refl)
      λ e. plain e (judged r.order s.number) refl

  pub passing : {lines : List Line} {closed : ℕ} {reached : Reached} → judgement room r s ≡ passes lines closed reached
      → Passing room r s lines closed reached
  passing e = subst P e if_passed

  pub halting : {lines : List Line} {why : Refusal} → judgement room r s ≡ stops lines why → Halting room r lines
  halting e = subst P e if_passed
