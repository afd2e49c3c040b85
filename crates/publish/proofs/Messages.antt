-- The octets of a message, section by section: what is left of it behind a section, and which of the section's own stay.
use mathlib.Core.Path.{◌≡◌, refl, sym}
use mathlib.Core.Bool.{Bool, true, false, not, ◌&&◌, ◌||◌}
use mathlib.Core.List.{List, [], ◌∷◌}
use mathlib.Core.Logic.{◌⊎◌, inl, inr}
use Prim.Native.Nat.{ℕ, zero, suc, ◌+◌, ◌≤◌, ◌<◌}
use native.Mathlib.Omega.{arith}
use lib.Dec.{leb, eqb}
use lib.ListN.{length}
use borrow.Author.Tests.{le-leb, lt-leb, lt-ltb, le-ltb, ne_eqb}
use Rattle.octets.specs.BigEndian.{be_at}
use Rattle.framing.specs.Framing.{read_at}
use Rattle.framing.specs.Listing.{Ending, Listing, listed_by, listing_from}
use Rattle.framing.specs.declared.read.Section.{Section}
use Rattle.framing.specs.declared.read.Cursor.{Cursor}
use Rattle.framing.specs.Read.{Read}
use Rattle.framing.specs.Read as read
use Rattle.framing.proofs.OneRead.{Reads, opens, closes, heads, reads, goes}
use Rattle.framing.proofs.Listing.{listing_on}
use Rattle.index.specs.declared.bounds.Room.{Room}
use Rattle.index.specs.Walk.{Reached, Judgement, stops, passes, judgement, followed, walked_from}
use Rattle.publish.specs.Values.{licensed, in_span, carries, is_value, in_message}
use Rattle.publish.specs.Copy.{stays}
use Rattle.publish.proofs.Runs.{split}
use Rattle.reading.proofs.Told.{told_from}
use Rattle.reading.proofs.Untabled.{told_on}

-- sections that start at an offset or behind it
abbrev pub From : ℕ → List Section → Type 0
From at [] = Unit
From at (s ∷ more) = (at ≤ s.offset.0) × From at more

from_later : (at later : ℕ) (sections : List Section) → at ≤ later → From later sections → From at sections
from_later at later [] h from = tt
from_later at later (s ∷ more) h (first, from) = (omega arith, from_later at later more h from)

-- those of a listing
from_read : (file : List ℕ) (at rest : ℕ) (found : Read) (f : ℕ → ℕ → Listing) → Reads file at rest found
    → ((at' rest' : ℕ) → From at' (f at' rest').sections) → From at (listed_by found f).sections
from_read file at rest (read.Section s next) f told later =
    let common = goes told in
    let at' = next.at.0 in
    (common.forward, from_later at at' (f at' next.rest).sections (omega arith) (later at' next.rest))
from_read file at rest read.Over f told later = tt
from_read file at rest (read.Refused fault offset) f told later = tt

from_listing : (count : ℕ) (file : List ℕ) (at rest : ℕ) → From at (listing_from count file at rest).sections
unfolding listing_from
from_listing zero file at rest = tt
from_listing (suc count) file at rest =
    from_read file at rest (read_at file at rest) (listing_from count file) (reads file at rest) (from_listing count file)

-- and those of them that a walk tells
from_walked : (room : Room) (at : ℕ) (r : Reached) (sections : List Section) (ending : Ending) → From at sections
    → From at (walked_from room r sections ending).sections
unfolding walked_from
from_walked room at r [] ending from = tt
from_walked room at r (s ∷ more) ending (first, from) =
    by_judgement (judgement room r s) (λ next. from_walked room at next more ending from)
  where
    by_judgement : (j : Judgement) → ((next : Reached) → From at (walked_from room next more ending).sections)
        → From at (followed r s j (λ next. walked_from room next more ending)).sections
    by_judgement (stops lines why) later = tt
    by_judgement (passes lines closed next) later = (first, later next)

pub from_told : (file : List ℕ) (r : Reached) (cursor : Cursor) → From cursor.at.0 (told_on file r cursor).sections
unfolding told_from listing_on
from_told file r cursor = from_walked _ cursor.at.0 r _ _ (from_listing _ file cursor.at.0 cursor.rest)

-- nothing is added
or_false : (a : Bool) → (a || false) ≡ a
or_false true = refl
or_false false = refl

and_false : (a : Bool) → (a && false) ≡ false
and_false true = refl
and_false false = refl

or_assoc : (a b c : Bool) → ((a || b) || c) ≡ (a || (b || c))
or_assoc true b c = refl
or_assoc false b c = refl

-- a span's octets
module _ (at octets k : ℕ) where
  span_below : k < at → in_span at octets k ≡ false
  unfolding in_span
  span_below h = rw (lt-leb at k h)

  span_past : at + octets ≤ k → in_span at octets k ≡ false
  unfolding in_span
  span_past h = rw (le-leb at k (omega arith), le-ltb k (at + octets) h)

span_none : (at k : ℕ) → in_span at 0 k ≡ false
span_none at k = split k at (λ h. span_below at 0 k h) (λ h. span_past at 0 k (omega arith))

-- of two spans, one behind the other
span_join : (at m n k : ℕ) → in_span at (m + n) k ≡ (in_span at m k || in_span (at + m) n k)
unfolding in_span
span_join at m n k =
    split k (at + m)
    (λ h. rw (lt-ltb k (at + m) h, lt-ltb k (at + (m + n)) (omega arith), lt-leb (at + m) k h) (sym (or_false (leb at k && true))))
    (λ h. rw (le-ltb k (at + m) h, le-leb at k (omega arith), le-leb (at + m) k h, same))
  where
    same : at + (m + n) ≡ at + m + n
    same = omega arith

-- no octet before them is a value or in a message of theirs
none_valued : (at k : ℕ) (sections : List Section) → k < at → From at sections → is_value licensed sections k ≡ false
unfolding is_value carries
none_valued at k [] h from = refl
none_valued at k (s ∷ more) h (first, from) =
    rw (span_below s.offset.0 s.length k (omega arith)) (none_valued at k more h from)

none_within : (file : List ℕ) (at k : ℕ) (sections : List Section) → k < at → From at sections → in_message file sections k ≡ false
unfolding in_message
none_within file at k [] h from = refl
none_within file at k (s ∷ more) h (first, from) =
    let total = be_at file (s.offset.0 + 8) 8 in
    rw (span_below s.offset.0 total k (omega arith), and_false (eqb s.number 0)) (none_within file at k more h from)

-- a message, or what is left of one, is its first section and what is left behind that
first_tile : (at offset rest total k : ℕ) (later : Bool) → 16 + rest ≡ total
    → (in_span at 0 k || (in_span offset total k || later)) ≡ (in_span offset 16 k || (in_span (offset + 16) rest k || later))
first_tile at offset rest total k later e =
    rw (span_none at k, ← e, span_join offset 16 rest k) (or_assoc (in_span offset 16 k) (in_span (offset + 16) rest k) later)

next_tile : (at octets rest all k : ℕ) (later : Bool) → octets + rest ≡ all
    → (in_span at all k || later) ≡ (in_span at octets k || (in_span (at + octets) rest k || later))
next_tile at octets rest all k later e =
    rw (← e, span_join at octets rest k) (or_assoc (in_span at octets k) (in_span (at + octets) rest k) later)

module _ (file : List ℕ) (more : List Section) (k : ℕ) where
  tile : {at rest : ℕ} (s : Section) (next : Cursor) → Reads file at rest (read.Section s next)
      → (in_span at rest k || in_message file (s ∷ more) k)
      ≡ (in_span s.offset.0 s.length k || (in_span next.at.0 next.rest k || in_message file more k))
  unfolding in_message
  tile {at} {rest} s next (opens common own) =
      rw (own.between, own.number, common.ends, own.size)
      (first_tile at s.offset.0 next.rest (be_at file (s.offset.0 + 8) 8) k (in_message file more k) own.total)
  tile {at} {rest} s next (closes common own) =
      rw (common.ends, own.number, own.here)
      (next_tile at s.length next.rest rest k (in_message file more k) (omega (arith, own.size, own.done, own.last)))
  tile {at} {rest} s next (heads common own) =
      rw (common.ends, ne_eqb s.number 0 (λ e. omega (arith, own.from_1)), own.here)
      (next_tile at s.length next.rest rest k (in_message file more k) own.left)

-- the octets that stay from a place on: of the message in hand, and of the sections to come
unfoldable pub left : List ℕ → ℕ → ℕ → List Section → ℕ → Bool
left file at rest sections k = (in_span at rest k || in_message file sections k) && not (is_value licensed sections k)

-- from the start on, all that stay
pub left_first : (file : List ℕ) (sections : List Section) (k : ℕ) → stays licensed file sections k ≡ left file 0 0 sections k
unfolding stays left
left_first file sections k = rw (span_none 0 k)

-- behind the last section none does
pub left_over : (file : List ℕ) (at rest k : ℕ) → (rest ≡ 0) ⊎ (length file ≤ at) → at ≤ k → k < length file
    → left file at rest [] k ≡ false
unfolding left in_message is_value
left_over file at rest k (inl none) from inside = rw (none, span_none at k)
left_over file at rest k (inr past) from inside = absurd (omega arith)

-- a section, and those behind it
module _ (file : List ℕ) {at rest : ℕ} (s : Section) (next : Cursor) (more : List Section) (k : ℕ)
    (told : Reads file at rest (read.Section s next)) where
  -- behind the section: what was left there before
  pub left_behind : next.at.0 ≤ k → left file at rest (s ∷ more) k ≡ left file next.at.0 next.rest more k
  unfolding left is_value carries
  left_behind h =
      let past = span_past s.offset.0 s.length k (omega (arith, (goes told).ends)) in
      rw (tile file more k s next told, past)

  -- up to its end: its own octets, but its values
  pub left_here : From next.at.0 more → k < next.at.0
      → left file at rest (s ∷ more) k ≡ (in_span s.offset.0 s.length k && not (carries licensed s k))
  unfolding left is_value
  left_here from h =
      rw (
        tile file more k s next told,
        span_below next.at.0 next.rest k h,
        none_within file next.at.0 k more h from,
        none_valued next.at.0 k more h from,
        or_false (in_span s.offset.0 s.length k),
        or_false (carries licensed s k),
      )
