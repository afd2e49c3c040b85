-- Called again and again, Grib2SectionStream's `next` gives the listing of 01's framing, up to the first read that leaves usize.
use Prim.Native.Nat.{ℕ, zero, suc, ◌-◌, ◌≤◌, ◌<◌}
use native.Mathlib.Omega.{arith}
use mathlib.Core.Path.{◌≡◌, refl}
use mathlib.Core.List.{List, [], ◌∷◌}
use mathlib.Core.Bool.{Bool, true, false}
use lib.ListN.{length}
use Rattle.octets.specs.Words.{pick}
use Rattle.framing.specs.Framing.{read_at}
use Rattle.framing.specs.Listing.{Listing, Ending, over, unreadable, ends_as, listed_by, listing_from}
use Rattle.framing.specs.declared.read.Offset.{Offset}
use Rattle.framing.specs.declared.read.Section.{Section}
use Rattle.framing.specs.declared.read.Fault.{Fault}
use Rattle.framing.specs.declared.read.Fault.TheVariants as fault
use Rattle.framing.specs.Read.{Read}
use Rattle.framing.specs.Read as read
use Rattle.framing.proofs.OneRead.{Reads, reads, goes}
use Rattle.as_the_crate.specs.Std.{ParseError, Dropped, gives, none, errs, overflows}
use Rattle.as_the_crate.specs.Reader.{Grib2SectionStream, Grib2SectionStream-next}
use Rattle.as_the_crate.specs.Parser.{Advance, fails, overflow}
use Rattle.as_the_crate.proofs.Words.{info_of, failure_of, Octets}
use Rattle.as_the_crate.specs.Overflow.{leaves}
use Rattle.as_the_crate.proofs.OneSection.{failed, stream, told, one_section}

-- an iterator gives these sections and then this ending; 4, 6 and 9 are overflows
pub data Yields {I : Type 0} (advance : Advance I) : I → List Section → Ending → Type 0 where
  is_over : {i : I} → advance i ≡ none → Yields advance i [] over
  is_refused : {i : I} {fault : Fault} {offset : Offset} {error : ParseError} {dropped : Dropped} → advance i ≡ errs error dropped
      → failure_of fault offset ≡ fails error dropped
      → Yields advance i [] (unreadable fault offset)
  is_broken : {i : I} {fault : Fault} {offset : Offset} → advance i ≡ overflows → failure_of fault offset ≡ overflow
      → Yields advance i [] (unreadable fault offset)
  yields : {i j : I} {s : Section} {ss : List Section} {e : Ending} → advance i ≡ gives (info_of s, j) → Yields advance j ss e
      → Yields advance i (s ∷ ss) e

by_fault : (advance : Advance Grib2SectionStream) (i : Grib2SectionStream) (f : Fault) (offset : Offset) → advance i ≡ failed f offset → Yields advance i [] (unreadable f offset)
by_fault advance i (fault.Cut missing) offset h = is_refused h refl
by_fault advance i (fault.OtherEdition edition) offset h = is_refused h refl
by_fault advance i fault.TotalUnder16 offset h = is_broken h refl
by_fault advance i fault.NotEndMark offset h = is_refused h refl
by_fault advance i (fault.LengthUnder5 len) offset h = is_broken h refl
by_fault advance i (fault.UnknownNumber number) offset h = is_refused h refl
by_fault advance i (fault.PayloadUnderLeast size) offset h = is_refused h refl
by_fault advance i (fault.LongerThanRest len) offset h = is_broken h refl

-- a read as the crate makes it: one that leaves usize is refused, as 9 is
abbrev pub left : Read
left = read.Refused (fault.LongerThanRest 0) (record { 0 = 0 })

abbrev pub crate_read : List ℕ → ℕ → ℕ → Read
crate_read file at rest = pick (leaves file at rest) left (read_at file at rest)

-- the listing of such reads
unfoldable pub crate_listing : ℕ → List ℕ → ℕ → ℕ → Listing
crate_listing zero file at rest = ends_as over
crate_listing (suc reads) file at rest = listed_by (crate_read file at rest) (λ at' rest'. crate_listing reads file at' rest')

module _ (file : List ℕ) (at rest : ℕ) (later : ℕ → ℕ → Listing) where
  by_read : (t : Bool) (r : Read) → Reads file at rest r → Grib2SectionStream-next file (stream at rest) ≡ pick t overflows (told r)
      → ((at' rest' : ℕ) → at < length file → at < at'
      → Yields (Grib2SectionStream-next file) (stream at' rest') (later at' rest').sections (later at' rest').ending)
      → Yields (Grib2SectionStream-next file) (stream at rest) (listed_by (pick t left r) later).sections (listed_by (pick t left r) later).ending
  by_read true r tells h ih = is_broken h refl
  by_read false (read.Section s c) tells h ih =
      let common = goes tells in yields h (ih c.at.0 c.rest (omega arith) (omega arith))
  by_read false read.Over tells h ih = is_over h
  by_read false (read.Refused fault offset) tells h ih = by_fault (Grib2SectionStream-next file) (stream at rest) fault offset h

pub stream_yields : (turns : ℕ) (file : List ℕ) (at rest : ℕ) → length file ≤ 1099511627776 → Octets file → length file - at < turns
    → Yields (Grib2SectionStream-next file) (stream at rest) (crate_listing turns file at rest).sections (crate_listing turns file at rest).ending
unfolding crate_listing
stream_yields zero file at rest most octets enough = absurd (omega arith)
stream_yields (suc turns) file at rest most octets enough =
    by_read file at rest (λ at' rest'. crate_listing turns file at' rest') (leaves file at rest) (read_at file at rest) (reads file at rest)
    (one_section file at rest most octets)
    (λ at' rest' inside later. stream_yields turns file at' rest' most octets (omega arith))

-- a listing has no more sections than reads
pub few : (turns : ℕ) (file : List ℕ) (at rest : ℕ) → length (listing_from turns file at rest).sections ≤ turns
unfolding listing_from
few zero file at rest = omega arith
few (suc turns) file at rest = by_kind (read_at file at rest)
    (λ at' rest'. few turns file at' rest')
  where
    by_kind : (r : Read) → ((at' rest' : ℕ) → length (listing_from turns file at' rest').sections ≤ turns)
        → length (listed_by r (λ at' rest'. listing_from turns file at' rest')).sections ≤ suc turns
    by_kind (read.Section s c) ih = let h = ih c.at.0 c.rest in omega arith
    by_kind read.Over ih = omega arith
    by_kind (read.Refused fault offset) ih = omega arith

-- and the crate's no more than that
pub fewer : (turns : ℕ) (file : List ℕ) (at rest : ℕ) → length (crate_listing turns file at rest).sections ≤ turns
unfolding crate_listing
fewer zero file at rest = omega arith
fewer (suc turns) file at rest = by_kind (leaves file at rest) (read_at file at rest) (λ at' rest'. fewer turns file at' rest')
  where
    by_kind : (t : Bool) (r : Read) → ((at' rest' : ℕ) → length (crate_listing turns file at' rest').sections ≤ turns)
        → length (listed_by (pick t left r) (λ at' rest'. crate_listing turns file at' rest')).sections ≤ suc turns
    by_kind true r ih = omega arith
    by_kind false (read.Section s c) ih = let h = ih c.at.0 c.rest in omega arith
    by_kind false read.Over ih = omega arith
    by_kind false (read.Refused fault offset) ih = omega arith
