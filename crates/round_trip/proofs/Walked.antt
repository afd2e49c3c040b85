-- The walk of a written message's sections is clean, with one message.
use Rattle.std.specs.Prelude.{None, Ok}
use Prim.Native.Nat.{ℕ, ◌+◌, ◌≤◌, ◌<◌}
use native.Mathlib.Omega.{arith}
use native.Mathlib.Nat.{zero-add}
use mathlib.Core.Path.{◌≡◌, refl, sym, ap, subst, ◌∙◌}
use mathlib.Core.Bool.{Bool, true, false}
use mathlib.Core.List.{List, [], ◌∷◌}
use lib.Dec.{eqb}
use lib.ListN.{length, length-append}
use borrow.Author.Tests.{lt-leb}
use Rattle.octets.specs.Words.{pick}
use Rattle.order.specs.Order.{judged, completes, is_between}
use Rattle.order.specs.declared.Order.{Order}
use Rattle.order.specs.declared.Order.TheVariants.{
  BetweenMessages,
  AfterIndicator,
  AfterIdentification,
  AfterLocalUse,
  AfterGrid,
  AfterProduct,
  AfterRepresentation,
  AfterBitMap,
  AfterData,
  SubmessageStart,
}
use Rattle.order.specs.declared.Judged.TheVariants.{Fits}
use Rattle.order.proofs.Laws.{ReachedBy, fits_number, fits_below, closes_only, completes_only, completes_there, starts_next}
use Rattle.framing.specs.Listing.{over}
use Rattle.framing.specs.declared.read.Section.{Section}
use Rattle.index.specs.Lines.{place, with_submessage, line_of}
use Rattle.index.specs.declared.line.Line.{Line}
use Rattle.index.specs.declared.bounds.Room.{Room}
use Rattle.index.specs.Walk.{Reached, at_start, passes, here, comes_in_force, fitted, closing, by_order, judgement, concluded, walked_from}
use Rattle.writer.specs.Plan.{Part, misfit_from, misfit}
use Rattle.writer.proofs.Checks.{misfit_passed, misfit_closed}
use Rattle.round_trip.specs.ReadBack.{listed_as, lines_in, WalksClean}
use Rattle.round_trip.proofs.Listed.{to_end}

-- a line is due after a section 7
unfoldable due : Order → ℕ
due AfterData = 1
due BetweenMessages = 0
due AfterIndicator = 0
due AfterIdentification = 0
due AfterLocalUse = 0
due AfterGrid = 0
due AfterProduct = 0
due AfterRepresentation = 0
due AfterBitMap = 0
due SubmessageStart = 0

-- which is told by the number that was read last
due_after : (order : Order) (number : ℕ) → ReachedBy order number → due order ≡ pick (eqb number 7) 1 0
unfolding due
due_after BetweenMessages number e = absurd e
due_after AfterIndicator number e = rw e
due_after AfterIdentification number e = rw e
due_after AfterLocalUse number e = rw e
due_after AfterGrid number e = rw e
due_after AfterProduct number e = rw e
due_after AfterRepresentation number e = rw e
due_after AfterBitMap number e = rw e
due_after AfterData number e = rw e
due_after SubmessageStart number e = absurd e

-- and by what completes a submessage
due_of : (order : Order) (number : ℕ) → (number ≡ 8 → ⊥) → due order ≡ pick (completes order number) 1 0
unfolding due completes
due_of AfterData number other = rw (completes_there number other)
due_of BetweenMessages number other = refl
due_of AfterIndicator number other = refl
due_of AfterIdentification number other = refl
due_of AfterLocalUse number other = refl
due_of AfterGrid number other = refl
due_of AfterProduct number other = refl
due_of AfterRepresentation number other = refl
due_of AfterBitMap number other = refl
due_of SubmessageStart number other = refl

-- a section that is passed on, with so many lines
record Goes (room : Room) (r : Reached) (s : Section) (order : Order) (lines : ℕ) : Type 0 where
  next : Reached
  told : List Line
  passed : judgement room r s ≡ passes told 0 next
  sections : next.sections ≡ r.sections + 1
  count : next.lines ≡ r.lines + lines
  reached : next.order ≡ order
  so_many : length told ≡ lines

goes : (room : Room) (r : Reached) (s : Section) (next : Order) → judged r.order s.number ≡ Fits next → r.sections < room.rows
    → r.lines + due r.order ≤ room.lines → Goes room r s next (due r.order)
unfolding judgement by_order fitted
goes room r s next fits rows lines = go (completes r.order s.number) refl
  where
    other : s.number ≡ 8 → ⊥
    other e = let below = fits_below r.order s.number fits in omega arith

    go : (t : Bool) → completes r.order s.number ≡ t → Goes room r s next (due r.order)
    go true e =
        let one : due r.order ≡ 1 = due_of r.order s.number other ∙ rw e in
        let after = (completes_only r.order s.number e).0 in
        let starts : judged SubmessageStart s.number ≡ Fits next = sym (starts_next s.number other) ∙ rw (← after) fits in
        record {
          next =
              record {
                file = r.file;
                sections = r.sections + 1;
                lines = r.lines + 1;
                last = here r s;
                order = next;
                force = comes_in_force r.file (with_submessage r.force (r.force.submessage + 1)) s (place r.sections);
              };
          told = line_of r.force None ∷ [];
          passed = rw (e, lt-leb room.lines r.lines (omega arith), starts, lt-leb room.rows r.sections rows);
          sections = refl;
          count = rw one;
          reached = refl;
          so_many = rw one;
        }
    go false e =
        let none : due r.order ≡ 0 = due_of r.order s.number other ∙ rw e in
        record {
          next =
              record {
                file = r.file;
                sections = r.sections + 1;
                lines = r.lines;
                last = here r s;
                order = next;
                force = comes_in_force r.file r.force s (place r.sections);
              };
          told = [];
          passed = rw (e, fits, lt-leb room.rows r.sections rows);
          sections = refl;
          count = omega (arith, none);
          reached = refl;
          so_many = sym none;
        }

-- before a clean rest
clean_more : (room : Room) (r : Reached) (s : Section) (more : List Section) (order : Order) (d n : ℕ) (g : Goes room r s order d)
    → WalksClean (walked_from room g.next more over) more n → WalksClean (walked_from room r (s ∷ more) over) (s ∷ more) (d + n)
unfolding walked_from
clean_more room r s more order d n g c =
    let rest = walked_from room g.next more over in
    rw g.passed
    (record {
      all_sections = ap (λ (l : List Section). s ∷ l) c.all_sections;
      all_lines = length-append g.told rest.lines ∙ rw (g.so_many, c.all_lines);
      one_message = rw zero-add c.one_message;
      no_refusal = c.no_refusal;
    })

-- section 8 closes
clean_close : (room : Room) (r : Reached) (at : ℕ) → r.order ≡ AfterData → r.sections < room.rows → r.lines < room.lines
    → WalksClean (walked_from room r (listed_as 8 at 4 ∷ []) over) (listed_as 8 at 4 ∷ []) 1
unfolding walked_from judgement completes judged by_order closing concluded is_between
clean_close room r at e rows lines =
    rw (e, lt-leb room.rows r.sections rows, lt-leb room.lines r.lines lines)
    (record { all_sections = refl; all_lines = refl; one_message = refl; no_refusal = refl })

due_data : due AfterData ≡ 1
unfolding due
due_data = refl

-- the sections of a plan that is in order, from anywhere inside a message
clean_from : (room : Room) (r : Reached) (from at : ℕ) (parts : List Part) → misfit_from r.order from parts ≡ Ok tt
    → r.sections + (1 + length parts) ≤ room.rows → r.lines + (due r.order + lines_in parts) ≤ room.lines
    → WalksClean (walked_from room r (to_end at parts) over) (to_end at parts) (due r.order + lines_in parts)
unfolding to_end lines_in
clean_from room r from at [] passed rows lines =
    let after = (closes_only r.order 8 (misfit_closed r.order from passed)).0 in
    let one : due r.order ≡ 1 = ap due after ∙ due_data in
    rw one (clean_close room r at after (omega arith) (omega arith))
clean_from room r from at (part ∷ more) passed rows lines =
    let step = misfit_passed r.order from part more passed in
    let s = listed_as part.number at (part.length + 5) in
    let g = goes room r s step.0 step.1 (omega arith) (omega arith) in
    let sections = g.sections in
    let count = g.count in
    let reached = g.reached in
    let after : due g.next.order ≡ pick (eqb part.number 7) 1 0 =
    ap due reached ∙ due_after step.0 part.number (fits_number r.order part.number step.1) in
    let rest : WalksClean (walked_from room g.next (to_end (at + (part.length + 5)) more) over) (to_end (at + (part.length + 5)) more)
    (due g.next.order + lines_in more) =
    clean_from room g.next (from + 1) (at + (part.length + 5)) more (rw reached step.2) (omega arith) (omega arith) in
    let later = to_end (at + (part.length + 5)) more in
    clean_more room r s later step.0 (due r.order) (pick (eqb part.number 7) 1 0 + lines_in more) g
    (subst (λ (n : ℕ). WalksClean (walked_from room g.next later over) later (n + lines_in more)) after rest)

-- a message from its section 0 on
pub clean_message : (room : Room) (file : List ℕ) (parts : List Part) → misfit parts ≡ Ok tt → 2 + length parts ≤ room.rows
    → lines_in parts ≤ room.lines
    → WalksClean (walked_from room (at_start file) (listed_as 0 0 16 ∷ to_end 16 parts) over) (listed_as 0 0 16 ∷ to_end 16 parts) (lines_in parts)
unfolding due judged
clean_message room file parts passed rows lines =
    let g : Goes room (at_start file) (listed_as 0 0 16) AfterIndicator 0 =
    goes room (at_start file) (listed_as 0 0 16) AfterIndicator refl (omega arith) (omega arith) in
    let sections = g.sections in
    let count = g.count in
    let reached = g.reached in
    let none : due g.next.order ≡ 0 = ap due reached in
    let rest : WalksClean (walked_from room g.next (to_end 16 parts) over) (to_end 16 parts) (due g.next.order + lines_in parts) =
    clean_from room g.next 0 16 parts (rw reached passed) (omega arith) (omega arith) in
    let lines-0 : WalksClean (walked_from room g.next (to_end 16 parts) over) (to_end 16 parts) (0 + lines_in parts) =
    subst (λ (n : ℕ). WalksClean (walked_from room g.next (to_end 16 parts) over) (to_end 16 parts) (n + lines_in parts)) none rest in
    rw (zero-add (0 + lines_in parts), zero-add (lines_in parts))
    at (clean_more room (at_start file) (listed_as 0 0 16) (to_end 16 parts) AfterIndicator 0 (0 + lines_in parts) g lines-0)
