-- A file of octets has entries within their bounds, so that its inventory is in the form and says
-- them.
use Prim.Native.Nat.{ℕ, zero, suc, ◌+◌, ◌-◌, ◌≤◌}
use native.Mathlib.Omega.{arith}
use mathlib.Core.Path.{◌≡◌, refl, sym, subst}
use mathlib.Core.Bool.{Bool, true, false}
use mathlib.Core.List.{List, [], ◌∷◌}
use lib.Dec.{ltb, eqb}
use lib.ListN.{length, take, drop, length-take, length-drop}
use borrow.Author.Tests.{ltb-false}
use Rattle.products.specs.declared.templates.TemplateReading.TheVariants.{ByManual}
use Rattle.products.proofs.Within.{
  Octets,
  category_within,
  parameter_within,
  forecast_within,
  fixed_within,
}
use Rattle.framing.specs.Framing.{read_at}
use Rattle.framing.specs.Listing.{Ending, Listing, listed_by, listing_from, listing}
use Rattle.framing.specs.Read.{Read}
use Rattle.framing.specs.Read as read
use Rattle.framing.specs.declared.read.Section.{Section}
use Rattle.framing.proofs.OneRead.{Reads, reads, goes}
use Rattle.framing.proofs.Tests.{by_test}
use Rattle.index.specs.Bounds.{most_octets, unlimited}
use Rattle.index.specs.Walk.{
  Reached,
  at_start,
  Judgement,
  stops,
  passes,
  judgement,
  Told,
  followed,
  walked_from,
  walked,
}
use Rattle.index.specs.Pins.{Every, told_at, count_of, PinnedLine}
use Rattle.index.specs.declared.bounds.Room.{Room}
use Rattle.index.specs.declared.line.Line.{Line}
use Rattle.index.proofs.Rows.{rows_are_laid_out}
use Rattle.index.proofs.Pins.{lines_are_pinned}
use Rattle.entries.specs.Form.{InOctet, OctetInBounds, TimeInBounds, InBounds}
use Rattle.entries.specs.declared.Entry.{Entry}
use Rattle.entries.proofs.Laws.{written_says_its_list}
use Rattle.inventory.specs.Inventory.{first_surface, entries_of}
use Rattle.inventory.specs.Laws.{behind_header, PinnedEntry, EachTwo, InventorySaysItsEntries}
use Rattle.inventory.proofs.EachEntry.{whole_indicator, each_line_has_its_entry}

-- no more sections are told than the file has octets
few_read : (file : List ℕ) (at rest : ℕ) (found : Read) (f : ℕ → ℕ → Listing)
    → Reads file at rest found
    → ((at' rest' : ℕ) → length (f at' rest').sections ≤ length file - at')
    → length (listed_by found f).sections ≤ length file - at
few_read file at rest (read.Section s next) f is later =
    let common = goes is in let more = later next.at.0 next.rest in omega arith
few_read file at rest read.Over f is later = omega arith
few_read file at rest (read.Refused fault offset) f is later = omega arith

few_listed : (count : ℕ) (file : List ℕ) (at rest : ℕ)
    → length (listing_from count file at rest).sections ≤ length file - at
unfolding listing_from
few_listed zero file at rest = omega arith
few_listed (suc count) file at rest =
    few_read file at rest (read_at file at rest) (listing_from count file) (reads file at rest)
    (few_listed count file)

few_walked : (room : Room) (r : Reached) (all : List Section) (ending : Ending)
    → length (walked_from room r all ending).sections ≤ length all
unfolding walked_from
few_walked room r [] ending = omega arith
few_walked room r (s ∷ all) ending =
    by_judgement (judgement room r s) (λ next. few_walked room next all ending)
  where
    by_judgement : (j : Judgement)
        → ((next : Reached) → length (walked_from room next all ending).sections ≤ length all)
        → length (followed r s j (λ next. walked_from room next all ending)).sections ≤ length
        (s ∷ all)
    by_judgement (stops lines why) later = omega arith
    by_judgement (passes lines closed next) later = let more = later next in omega arith

few_told : (file : List ℕ) → length (walked unlimited file).sections ≤ length file
unfolding walked listing
few_told file =
    by_test (λ (t : Told). length t.sections ≤ length file) (ltb most_octets (length file))
    (λ long. omega arith)
    (λ short. omega (
      arith,
      few_walked unlimited (at_start file) (listing file).sections
          (listing file).ending,
      few_listed (length file + 1) file 0 0,
    ))

count_few : (n : ℕ) (l : List Section) → count_of n l ≤ length l
count_few n [] = omega arith
count_few n (s ∷ l) = by_test (λ (one : ℕ). one + count_of n l ≤ length (s ∷ l)) (eqb s.number n)
    (λ e. let more = count_few n l in omega arith) (λ e. let more = count_few n l in omega arith)

-- the octets of a list, and of a part of it
octets_of_lem : (l : List ℕ) → Every InOctet l → Octets l
octets_of_lem [] every i = omega arith
octets_of_lem (octet ∷ l) (here, every) zero = here
octets_of_lem (octet ∷ l) (here, every) (suc i) = octets_of_lem l every i

every_take : (n : ℕ) (l : List ℕ) → Every InOctet l → Every InOctet (take n l)
every_take zero l every = tt
every_take (suc n) [] every = tt
every_take (suc n) (octet ∷ l) (here, every) = (here, every_take n l every)

every_drop : (n : ℕ) (l : List ℕ) → Every InOctet l → Every InOctet (drop n l)
every_drop zero l every = every
every_drop (suc n) [] every = tt
every_drop (suc n) (octet ∷ l) (here, every) = every_drop n l every

-- the entry of a line
module _ (file : List ℕ) (every : Every InOctet file) (fits : length file ≤ most_octets) where
  abbrev told : List Section
  told = (walked unlimited file).sections

  entry_in_bounds : (line : Line) (e : Entry) → PinnedLine file told line
      → PinnedEntry file told line e → InBounds e
  unfolding first_surface
  entry_in_bounds line e pins pinned =
      let few = few_told file in
      let fourth = told_at told line.product.0 in
      let s = behind_header file fourth in
      let behind = fourth.offset.0 + 5 in
      let octets = octets_of_lem s
      (every_take (fourth.length - 5) (drop behind file) (every_drop behind file every)) in
      let (size, room) = whole_indicator file (rows_are_laid_out unlimited file)
      line.indicator.0 pinned.zeroth in
      let before = take line.indicator.0 told in
      let within = drop line.indicator.0 (take line.values.0 told) in
      let messages : length before ≤ length told = simp length-take (omega arith) in
      let submessages : length within ≤ length told =
      simp (length-drop, length-take) (omega arith) in
      record {
        message = omega (arith, pinned.message, pins.message, count_few 0 before);
        submessage = omega (arith, pinned.submessage, pins.submessage, count_few 7 within);
        offset = rw pinned.there (omega arith);
        discipline = rw pinned.discipline (octets_of_lem file every (e.offset.0 + 6));
        category = rw pinned.category (category_within OctetInBounds tt (λ n low. low) s octets);
        number = rw pinned.number (parameter_within OctetInBounds tt (λ n low. low) s octets);
        time = rw pinned.time
            (forecast_within TimeInBounds tt (λ t unit time. (unit, time)) ByManual s octets);
        surface = rw pinned.surface
            (fixed_within (λ x. OctetInBounds (first_surface x)) tt (λ a b low. low) ByManual s
            octets);
      }

  each_in_bounds : (lines : List Line) (entries : List Entry) → Every (PinnedLine file told) lines
      → EachTwo (PinnedEntry file told) lines entries
      → Every InBounds entries
  each_in_bounds [] [] pins pinned = tt
  each_in_bounds [] (e ∷ entries) pins pinned = elim pinned [ ]
  each_in_bounds (line ∷ lines) [] pins pinned = elim pinned [ ]
  each_in_bounds (line ∷ lines) (e ∷ entries) (pin, pins) (one, more) =
      (entry_in_bounds line e pin one, each_in_bounds lines entries pins more)

-- a file that is too long has none
too_long : (file : List ℕ) → ltb most_octets (length file) ≡ true → entries_of file ≡ []
unfolding entries_of walked
too_long file long = rw long

entries_in_bounds : (file : List ℕ) → Every InOctet file → Every InBounds (entries_of file)
entries_in_bounds file every = by_length (ltb most_octets (length file)) refl
  where
    by_length : (t : Bool) → ltb most_octets (length file) ≡ t → Every InBounds (entries_of file)
    by_length true long = subst (Every InBounds) (sym (too_long file long)) tt
    by_length false short =
        each_in_bounds file every (ltb-false most_octets (length file) short)
        (walked unlimited file).lines (entries_of file)
        (lines_are_pinned unlimited file) (each_line_has_its_entry file)

pub inventory_says_its_entries : InventorySaysItsEntries
inventory_says_its_entries file every =
    let within =
    entries_in_bounds file every in (within, written_says_its_list (entries_of file) within)
