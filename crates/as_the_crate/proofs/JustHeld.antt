-- In tables that hold just what the walk tells down the crate's listing, the walk tells just that; so that begins the walk, and its lines
-- are pinned to its sections.
use Prim.Native.Nat.{ℕ, zero, suc, ◌+◌, ◌≤◌}
use native.Mathlib.Omega.{arith}
use mathlib.Core.Path.{◌≡◌, refl, subst₂}
use mathlib.Core.Bool.{Bool, true, false}
use mathlib.Core.List.{List, []}
use lib.ListN.{length, length-append}
use borrow.Author.Tests.{le-ltb, le-leb}
use Rattle.octets.specs.Words.{pick}
use Rattle.framing.specs.Framing.{read_at}
use Rattle.framing.specs.Listing.{Listing, listed_by, listing_from, listing}
use Rattle.framing.specs.Read.{Read}
use Rattle.framing.specs.Read as read
use Rattle.framing.specs.declared.read.Section.{Section}
use Rattle.framing.proofs.Tests.{by_test}
use Rattle.order.specs.Order.{judged, completes}
use Rattle.order.specs.declared.Judged.{Judged}
use Rattle.order.specs.declared.Judged.TheVariants as judged
use Rattle.index.specs.declared.line.Line.{Line}
use Rattle.index.specs.declared.bounds.Room.{Room}
use Rattle.index.specs.Walk.{Reached, at_start, Judgement, stops, passes, fitted, closing, by_order, judgement, Told, followed, walked_from, walked}
use Rattle.index.specs.Pins.{Every, PinnedLine}
use Rattle.index.proofs.Pins.{lines_are_pinned}
use Rattle.as_the_crate.specs.Overflow.{leaves}
use Rattle.as_the_crate.proofs.Stream.{left, crate_listing}
use Rattle.as_the_crate.proofs.Tables.{freely, freely_from, Holds, Counted, counted, same}
use Rattle.as_the_crate.proofs.Whole.{crate_free}

-- these sections and lines are told
abbrev Tells : List Section → List Line → Told → Type 0
Tells sections lines t = (t.sections ≡ sections) × (t.lines ≡ lines)

-- tables that hold just what is told from here on
abbrev JustHolds : Room → Reached → Told → Type 0
JustHolds room r t = (room.rows ≡ r.sections + length t.sections) × (room.lines ≡ r.lines + length t.lines)

-- in full tables a section tells nothing
silent : (room : Room) (r : Reached) (s : Section) (later : Reached → Told) → room.rows ≤ r.sections → room.lines ≤ r.lines
    → Tells [] [] (followed r s (judgement room r s) later)
unfolding judgement by_order fitted closing
silent room r s later rows lines =
    by_test Silent (completes r.order s.number) (λ e. rw (le-leb room.lines r.lines lines) (refl, refl))
    (λ e. go (judged r.order s.number))
  where
    Silent : Judgement → Type 0
    Silent j = Tells [] [] (followed r s j later)

    go : (j : Judged) → Silent (by_order j room r s [])
    go (judged.Fits order) = rw (le-leb room.rows r.sections rows) (refl, refl)
    go judged.Closes = rw (le-leb room.rows r.sections rows) (refl, refl)
    go judged.Misplaced = (refl, refl)
    go judged.NoGrid = (refl, refl)

-- one that is held tells what it tells with no table in mind
by_judgement : (room : Room) (r : Reached) (s : Section) (walk crate : Reached → Told) (j : Judgement) → Counted r j
    → (Holds room r j → judgement room r s ≡ j) → JustHolds room r (followed r s j crate)
    → ((q : Reached) → JustHolds room q (crate q) → Tells (crate q).sections (crate q).lines (walk q))
    → Tells (followed r s j crate).sections (followed r s j crate).lines (followed r s (judgement room r s) walk)
by_judgement room r s walk crate (stops lines why) few is (rows, held) ih = rw (is (omega arith)) (refl, refl)
by_judgement room r s walk crate (passes lines closed reached) (a, b, c) is (rows, held) ih =
    let sum = length-append lines (crate reached).lines in
    let later = ih reached (omega arith, omega arith) in
    rw (is (omega arith, omega arith), later.0, later.1) (refl, refl)

module _ (file : List ℕ) (room : Room) where
  -- where these tables hold just what is told down the crate's listing, the walk down the other tells that
  abbrev JustThat : Reached → Listing → Listing → Type 0
  JustThat r walk crate =
      let told = freely_from r crate.sections crate.ending in
      JustHolds room r told → Tells told.sections told.lines (walked_from room r walk.sections walk.ending)

  -- a read that leaves usize comes at full tables
  by_read : (n : ℕ) (r : Reached) (t : Bool) (x : Read)
      → ((at rest : ℕ) (q : Reached) → JustThat q (listing_from n file at rest) (crate_listing n file at rest))
      → JustThat r (listed_by x (λ at rest. listing_from n file at rest)) (listed_by (pick t left x) (λ at rest. crate_listing n file at rest))
  unfolding walked_from freely_from
  by_read n r true (read.Section s c) ih (rows, lines) = silent room r s _ (omega arith) (omega arith)
  by_read n r true read.Over ih just = (refl, refl)
  by_read n r true (read.Refused fault offset) ih just = (refl, refl)
  by_read n r false (read.Section s c) ih just =
      by_judgement room r s _ _ (freely r s) (counted r s) (same room r s) just (ih c.at.0 c.rest)
  by_read n r false read.Over ih just = (refl, refl)
  by_read n r false (read.Refused fault offset) ih just = (refl, refl)

  -- read by read
  down_both : (n at rest : ℕ) (r : Reached) → JustThat r (listing_from n file at rest) (crate_listing n file at rest)
  unfolding listing_from crate_listing walked_from freely_from
  down_both zero at rest r = λ just. (refl, refl)
  down_both (suc n) at rest r = by_read n r (leaves file at rest) (read_at file at rest) (down_both n)

-- tables for what is told down the crate's listing
abbrev pub just_room : List ℕ → Room
just_room file = record { rows = length (crate_free file).sections; lines = length (crate_free file).lines }

-- the walk in them tells just that
pub just_held : (file : List ℕ) → length file ≤ 1099511627776 → Tells (crate_free file).sections (crate_free file).lines (walked (just_room file) file)
unfolding walked listing
just_held file most =
    rw (le-ltb 1099511627776 (length file) most) (down_both file (just_room file) (length file + 1) 0 0 (at_start file) (omega arith, omega arith))

-- and every walk's lines are pinned to its sections
pub crate_lines_are_pinned : (file : List ℕ) → length file ≤ 1099511627776
    → Every (PinnedLine file (crate_free file).sections) (crate_free file).lines
crate_lines_are_pinned file most =
    let told = just_held file most in
    subst₂ (λ (ss : List Section) (ls : List Line). Every (PinnedLine file ss) ls) told.0 told.1 (lines_are_pinned (just_room file) file)
