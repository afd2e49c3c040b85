-- The rows that a walk tells begin the file's listing, so that they are laid out as it is; they are all of it where the input is over, and
-- where a section is refused it is the next.
use Rattle.std.specs.Prelude.{Err}
use Prim.Native.Nat.{ℕ, ◌≤◌}
use native.Mathlib.Omega.{arith}
use mathlib.Core.Path.{◌≡◌, refl, sym, ap, subst, ◌∙◌}
use mathlib.Core.List.{List, [], ◌∷◌, ◌++◌, append_assoc}
use mathlib.Core.Logic.{◌⊎◌, inl, inr}
use lib.Dec.{ltb, leb}
use lib.ListN.{length}
use Rattle.framing.specs.Listing.{Ending, over, unreadable, listing}
use Rattle.framing.specs.LaidOut.{LaidOut, nothing_more}
use Rattle.framing.specs.declared.read.Fault.{Fault}
use Rattle.framing.specs.declared.read.Fault.TheVariants as fault
use Rattle.framing.specs.declared.read.Offset.{Offset}
use Rattle.framing.specs.declared.read.Section.{Section}
use Rattle.framing.proofs.Tests.{by_test}
use Rattle.framing.proofs.LaidOut.{listing_is_laid_out, beginning_is_laid_out}
use Rattle.framing.proofs.AllListed.{over_lists_all}
use Rattle.order.specs.Order.{judged, completes, is_between}
use Rattle.order.specs.declared.Place.{Place}
use Rattle.order.specs.declared.Order.TheVariants.{SubmessageStart}
use Rattle.order.specs.declared.Judged.{Judged}
use Rattle.order.specs.declared.Judged.TheVariants as says
use Rattle.index.specs.declared.line.Line.{Line}
use Rattle.index.specs.declared.refusal.Refusal.{Refusal}
use Rattle.index.specs.declared.bounds.Room.{Room}
use Rattle.index.specs.Walk.{
  Reached,
  at_start,
  Judgement,
  stops,
  passes,
  fitted,
  closing,
  by_order,
  gone_on,
  judgement,
  Told,
  concluded,
  followed,
  walked_from,
  walked,
}
use Rattle.index.specs.Numbers.{fault_number, refusal_number, end_of}
use Rattle.index.specs.Pins.{RowsAreLaidOut, OverTellsAll, StandsNext, JustReadStandsNext}
use Rattle.index.specs.Outcome.{refused_there}

-- a section that can't be read is 2 to 9
pub fault_number_lem : (fault : Fault) → (2 ≤ fault_number fault) × (fault_number fault ≤ 9)
unfolding fault_number
fault_number_lem (fault.Cut missing) = (omega arith, omega arith)
fault_number_lem (fault.OtherEdition edition) = (omega arith, omega arith)
fault_number_lem fault.TotalUnder16 = (omega arith, omega arith)
fault_number_lem fault.NotEndMark = (omega arith, omega arith)
fault_number_lem (fault.LengthUnder5 len) = (omega arith, omega arith)
fault_number_lem (fault.UnknownNumber number) = (omega arith, omega arith)
fault_number_lem (fault.PayloadUnderLeast size) = (omega arith, omega arith)
fault_number_lem (fault.LongerThanRest len) = (omega arith, omega arith)

-- at the end of the list the input is over, clean or inside a message, or that
abbrev EndNumber : Ending → ℕ → Type 0
EndNumber over n = (n ≡ 0) ⊎ (n ≡ 10)
EndNumber (unreadable fault offset) n = (2 ≤ n) × (n ≤ 9)

end_number : (r : Reached) (ending : Ending) → EndNumber ending (end_of (concluded r ending)).outcome
unfolding concluded end_of refusal_number
end_number r over =
    by_test (λ how. ((end_of how).outcome ≡ 0) ⊎ ((end_of how).outcome ≡ 10)) (is_between r.order) (λ e. inl refl) (λ e. inr refl)
end_number r (unreadable fault offset) = fault_number_lem fault

-- a section that is well read is refused with 11 to 14
abbrev WellRead : Judgement → Type 0
WellRead (stops lines why) = 11 ≤ refusal_number why
WellRead (passes lines closed reached) = Unit

by_order_number : (j : Judged) (room : Room) (r : Reached) (s : Section) (lines : List Line) → WellRead (by_order j room r s lines)
unfolding by_order fitted closing refusal_number
by_order_number (says.Fits next) room r s lines =
    by_test WellRead (leb room.rows r.sections) (λ e. omega arith) (λ e. tt)
by_order_number says.Closes room r s lines =
    by_test WellRead (leb room.rows r.sections) (λ e. omega arith) λ e.
    by_test WellRead (leb room.lines r.lines) (λ f. omega arith) (λ f. tt)
by_order_number says.Misplaced room r s lines = omega arith
by_order_number says.NoGrid room r s lines = omega arith

judgement_number : (room : Room) (r : Reached) (s : Section) → WellRead (judgement room r s)
unfolding judgement refusal_number
judgement_number room r s =
    by_test WellRead (completes r.order s.number)
    (λ on. by_test WellRead (leb room.lines r.lines) (λ e. omega arith) λ e.
    by_order_number (judged SubmessageStart s.number) room (gone_on r) s _)
    (λ off. by_order_number (judged r.order s.number) room r s [])

-- all of a list of sections is told, or the next one is refused
data Tells (all : List Section) (ending : Ending) (t : Told) : Type 0 where
  all_told : t.sections ≡ all → EndNumber ending (end_of t.outcome).outcome → Tells all ending t
  stopped : (s : Section) (more : List Section) (why : Refusal) (p : Place) → all ≡ t.sections ++ (s ∷ more)
      → t.outcome ≡ Err (refused_there why p s.offset) → 11 ≤ refusal_number why → Tells all ending t

tells : (room : Room) (r : Reached) (all : List Section) (ending : Ending) → Tells all ending (walked_from room r all ending)
unfolding walked_from
tells room r [] ending = all_told refl (end_number r ending)
tells room r (s ∷ all) ending = go (judgement room r s) (judgement_number room r s) (λ reached. tells room reached all ending)
  where
    one_more : (lines : List Line) (closed : ℕ) (reached : Reached) → Tells all ending (walked_from room reached all ending)
        → Tells (s ∷ all) ending (followed r s (passes lines closed reached) (λ reached. walked_from room reached all ending))
    one_more lines closed reached (all_told e n) = all_told (ap (λ (l : List Section). s ∷ l) e) n
    one_more lines closed reached (stopped x more why p e f n) = stopped x more why p (ap (λ (l : List Section). s ∷ l) e) f n

    go : (j : Judgement) → WellRead j → ((reached : Reached) → Tells all ending (walked_from room reached all ending))
        → Tells (s ∷ all) ending (followed r s j (λ reached. walked_from room reached all ending))
    go (stops lines why) n later = stopped s all why _ refl refl n
    go (passes lines closed reached) n later = one_more lines closed reached (later reached)

-- of a whole walk, or the file is too long
abbrev Whole : List ℕ → Told → Type 0
Whole file t = ((t.sections ≡ []) × ((end_of t.outcome).outcome ≡ 1)) ⊎ Tells (listing file).sections (listing file).ending t

whole : (room : Room) (file : List ℕ) → Whole file (walked room file)
unfolding walked end_of refusal_number
whole room file =
    by_test (Whole file) (ltb 1099511627776 (length file)) (λ long. inl (refl, refl))
    (λ short. inr (tells room (at_start file) (listing file).sections (listing file).ending))

pub rows_are_laid_out : RowsAreLaidOut
rows_are_laid_out room file = go (walked room file) (whole room file)
  where
    go : (t : Told) → Whole file t → LaidOut file 0 0 t.sections
    go t (inl (none, one)) = subst (LaidOut file 0 0) (sym none) nothing_more
    go t (inr (all_told e n)) = subst (LaidOut file 0 0) (sym e) (listing_is_laid_out file)
    go t (inr (stopped s more why p e f n)) =
        beginning_is_laid_out t.sections (s ∷ more) (subst (LaidOut file 0 0) e (listing_is_laid_out file))

refused_end : (t : Told) (why : Refusal) (p : Place) (o : Offset) → t.outcome ≡ Err (refused_there why p o)
    → ((end_of t.outcome).outcome ≡ refusal_number why) × ((end_of t.outcome).offset ≡ o.0)
unfolding end_of
refused_end t why p o e = (ap (λ how. (end_of how).outcome) e, ap (λ how. (end_of how).offset) e)

pub over_tells_all : OverTellsAll
over_tells_all room file more = go (walked room file) (whole room file) (listing file).ending refl
  where
    neither : (n : ℕ) → (n ≡ 0) ⊎ (n ≡ 10) → (11 ≤ n) ⊎ ((1 ≤ n) × (n ≤ 9)) → ⊥
    neither n (inl z) (inl high) = omega arith
    neither n (inl z) (inr mid) = let low = mid.0 in omega arith
    neither n (inr z) (inl high) = omega arith
    neither n (inr z) (inr mid) = let top = mid.1 in omega arith

    go : (t : Told) → Whole file t → (ending : Ending) → (listing file).ending ≡ ending
        → let n = (end_of t.outcome).outcome in
        (n ≡ 0) ⊎ (n ≡ 10) → LaidOut file 0 0 (t.sections ++ more) → more ≡ []
    go t (inl (none, one)) ending e n l = absurd (neither _ n (inr (omega arith, omega arith)))
    go t (inr (stopped s others why p x f high)) ending e n l =
        absurd (neither _ n (inl (omega (arith, (refused_end t why p s.offset f).0))))
    go t (inr (all_told x number)) over e n l =
        over_lists_all file more e (subst (λ (some : List Section). LaidOut file 0 0 (some ++ more)) x l)
    go t (inr (all_told x number)) (unreadable fault offset) e n l =
        let k = subst (λ (ending : Ending). EndNumber ending (end_of t.outcome).outcome) e number in
        absurd (neither _ n (inr (omega (arith, k.0), k.1)))

pub just_read_stands_next : JustReadStandsNext
just_read_stands_next room file = go (walked room file) (whole room file)
  where
    below : (ending : Ending) (n : ℕ) → EndNumber ending n → 11 ≤ n → ⊥
    below over n (inl z) high = omega arith
    below over n (inr z) high = omega arith
    below (unreadable fault offset) n k high = let top = k.1 in omega arith

    go : (t : Told) → Whole file t
        → let end = end_of t.outcome in
        11 ≤ end.outcome → StandsNext file t.sections end.offset
    go t (inl (none, one)) high = absurd (omega arith)
    go t (inr (all_told x number)) high = absurd (below (listing file).ending _ number high)
    go t (inr (stopped s more why p x f n)) high =
        record {
          next = s;
          at_offset = sym (refused_end t why p s.offset f).1;
          behind =
              beginning_is_laid_out (t.sections ++ (s ∷ [])) more
              (subst (LaidOut file 0 0) (x ∙ sym (append_assoc t.sections (s ∷ []) more)) (listing_is_laid_out file));
        }
