-- One call of Grib2SectionStream's `next` is one read of 01's framing.
use Rattle.std.specs.Prelude.{Option, Some, None}
use Prim.Native.Nat.{ℕ, ◌+◌, ◌-◌, ◌≤◌, ◌<◌}
use native.Mathlib.Omega.{arith}
use mathlib.Core.Path.{◌≡◌, refl}
use mathlib.Core.Bool.{true, false, not, ◌||◌}
use mathlib.Core.List.{List}
use lib.Dec.{ltb, leb, eqb}
use lib.ListN.{length, get_or}
use borrow.Author.Tests.{ltb-true, ltb-false, lt-ltb, le-ltb, lt-leb, le-leb, leb-true, leb-false, eqb-true, ne_eqb}
use Rattle.octets.specs.Words.{pick}
use Rattle.octets.specs.BigEndian.{be_at}
use Rattle.octets.proofs.Laws.{be_lt}
use Rattle.sections.specs.Kinds.{least_payload_of, kind_of, kinds}
use Rattle.framing.specs.Search.{says, IsNextStart, next_start}
use Rattle.framing.specs.Framing.{section_at, refused_at, indicator_at, end_at, is_cut, payload_at, header_at, message_at, read_at}
use Rattle.framing.specs.declared.read.Offset.{Offset}
use Rattle.framing.specs.declared.read.Fault.{Fault}
use Rattle.framing.specs.declared.read.Fault.TheVariants as fault
use Rattle.framing.specs.Read.{Read}
use Rattle.framing.specs.Read as read
use Rattle.framing.proofs.Tests.{by_test}
use Rattle.framing.proofs.NextStart.{start_room, next_start_first}
use Rattle.as_the_crate.specs.Std.{info, gives, none, err, overflows, begun, try, minus, plus, Cursor-read, Cursor-read_exact}
use Rattle.as_the_crate.specs.Std.{ReadError, GRIBVersionMismatch, UnknownSectionNumber, EndSectionMismatch, SectionSizeTooSmall}
use Rattle.as_the_crate.specs.Reader.{Grib2SectionStream, NextSection, Sect0, Indicator-from_slice, from_payload, read_sect8}
use Rattle.as_the_crate.specs.Reader.{read_sect_header, read_slice_without_offset_check, read_sect6_payload, skip_sect7_payload, read_checked}
use Rattle.as_the_crate.specs.Reader.{read_body, read_sect_payload, next_sect0, next_sect8, next_sect, Grib2SectionStream-next}
use Rattle.as_the_crate.proofs.Words.{info_of, Octets}
use Rattle.as_the_crate.specs.Overflow.{leaves_by, leaves}
use Rattle.as_the_crate.proofs.Decide.{decide, by_test_2, or_false, or_true, same_test}
use Rattle.as_the_crate.proofs.Search.{seek_is, found_at, search_is}

-- why a section can't be read, as an answer
abbrev pub failed : Fault → Offset → NextSection
failed (fault.Cut missing) offset = begun offset.0 (err ReadError)
failed (fault.OtherEdition edition) offset = begun offset.0 (err (GRIBVersionMismatch edition))
failed fault.TotalUnder16 offset = overflows
failed fault.NotEndMark offset = begun offset.0 (err EndSectionMismatch)
failed (fault.LengthUnder5 len) offset = overflows
failed (fault.UnknownNumber number) offset = begun offset.0 (err (UnknownSectionNumber number))
failed (fault.PayloadUnderLeast size) offset = begun offset.0 (err (SectionSizeTooSmall size))
failed (fault.LongerThanRest len) offset = overflows

-- a stream at a place, with so many octets of the message to come
abbrev pub stream : ℕ → ℕ → Grib2SectionStream
stream at rest = record { reader = at; whole_size = at + rest; rest_size = rest }

-- a read, as an answer
abbrev pub told : Read → NextSection
told (read.Section s next) = gives (info_of s, stream next.at.0 next.rest)
told read.Over = none
told (read.Refused fault offset) = failed fault offset

-- the same, where it leaves usize by the number that a header has
abbrev pub exactly : ℕ → Read → NextSection
exactly number r = pick (leaves_by number r) overflows (told r)

abbrev Same : ℕ → NextSection → Read → Type 0
Same number a r = a ≡ exactly number r

-- next_sect0 behind read_sect0, from a whole size that is where the search began
abbrev after0 : ℕ → Sect0 → NextSection
after0 at found =
    plus at found.0 λ offset.
    plus offset found.1 λ whole_size.
    minus found.1 16 λ rest_size.
    gives (info 0 offset 16, record { reader = found.2; whole_size = whole_size; rest_size = rest_size })

message : (number : ℕ) (file : List ℕ) (at : ℕ) (found : Option ℕ) → length file ≤ 1099511627776 → IsNextStart file at found
    → Same number (try (found_at file at 0 found) (after0 at)) (message_at file found)
unfolding Indicator-from_slice message_at indicator_at
message number file at None most absent = refl
message number file at (Some g) most (from, there, first) =
    let total = be_at file (g + 8) 8 in
    let place : at + (0 + (g - at)) ≡ g = omega arith in
    let room = start_room file g there in
    decide (not (eqb (get_or file (g + 7) 0) 2))
    (λ e. rw e refl)
    (λ e. rw (e, place, lt-ltb g 18446744073709551616 (omega arith))
    (decide (ltb (g + total) 18446744073709551616)
    (λ fits. rw fits
    (decide (ltb total 16)
    (λ short. rw short refl)
    (λ long.
    let p = ltb-false total 16 long in
    let q = ltb-true (g + total) 18446744073709551616 fits in
    let whole : g + 16 + (total - 16) ≡ g + total = omega arith in
    rw (long, whole, lt-leb 18446744073709551616 (g + total) q) refl)))
    (λ over.
    let q = ltb-false (g + total) 18446744073709551616 over in
    let whole : g + 16 + (total - 16) ≡ g + total = omega arith in
    rw (over, le-ltb total 16 (omega arith), whole, le-leb 18446744073709551616 (g + total) q) refl)))

initial : (at whole : ℕ) → whole ≡ at → pick (eqb whole 0) at whole ≡ at
initial at whole e = by_test (λ (n : ℕ). n ≡ at) (eqb whole 0) (λ z. refl) (λ z. e)

sect0 : (number : ℕ) (file : List ℕ) (at whole rest : ℕ) → length file ≤ 1099511627776 → whole ≡ at
    → Same number (next_sect0 file (record { reader = at; whole_size = whole; rest_size = rest })) (message_at file (next_start file at))
unfolding next_sect0
sect0 number file at whole rest most e =
    rw (initial at whole e, search_is file at most) (message number file at (next_start file at) most (next_start_first file at))

sect8 : (number : ℕ) (file : List ℕ) (at rest : ℕ) → at < length file → rest ≡ 4 → Same number (next_sect8 file (stream at rest)) (end_at file at)
unfolding next_sect8 read_sect8 Cursor-read end_at
sect8 number file at rest inside four =
    decide (ltb (length file - at) 4)
    (λ e.
    let p = ltb-true (length file - at) 4 e in
    rw (e, ne_eqb (length file - at) 0 (omega arith), ne_eqb (length file - at) 4 (omega arith)) refl)
    (λ e. rw e
    (decide (says file at 55 55 55 55)
    (λ mark.
    let back : at + 4 - 4 ≡ at = omega arith in
    let whole : at + 4 + 0 ≡ at + 4 = omega arith in
    rw (mark, four, le-ltb (at + 4) 4 (omega arith), back, whole) refl)
    (λ other. rw other refl)))

module _ (file : List ℕ) (at rest len num : ℕ) where
  -- next_sect behind the payload
  abbrev finish : ℕ → NextSection
  finish a =
      minus rest len λ rest_size.
      gives (info num at len, record { reader = a; whole_size = at + rest; rest_size = rest_size })

  abbrev left : ℕ
  left = length file - at

  done : (a : ℕ) → a ≡ at + len → eqb num 0 ≡ false
      → Same num (begun at (finish a)) (pick (ltb rest len) (refused_at (fault.LongerThanRest len) at) (section_at num at len (rest - len)))
  done a e some =
      decide (ltb rest len)
      (λ long. rw long refl)
      (λ fits.
      let p = ltb-false rest len fits in
      let whole : at + len + (rest - len) ≡ at + rest = omega arith in
      rw (fits, some, whole, e) refl)

  module _ (five : 5 ≤ len) (room : at + 5 ≤ length file) (some : eqb num 0 ≡ false) where
    exact : Cursor-read_exact file (at + 5) (len - 5) ≡ pick (ltb left len) (err ReadError) (gives (at + len))
    unfolding Cursor-read_exact
    exact =
        let end : at + 5 + (len - 5) ≡ at + len = omega arith in
        rw (same_test (length file - (at + 5)) (len - 5) left len (λ p. omega arith) (λ p. omega arith), end) refl

    checked : (least : ℕ) → is_cut num len left ≡ ltb left len → eqb num 6 ≡ false
        → Same num (begun at (try (read_checked file (at + 5) least (len - 5)) finish)) (payload_at (Some least) at num len left rest)
    unfolding read_slice_without_offset_check from_payload payload_at
    checked least cut other =
        rw (exact, cut)
        (decide (ltb left len)
        (λ e. rw e refl)
        (λ e. rw e
        (decide (ltb (len - 5) least)
        (λ short. rw (short, other) refl)
        (λ long. rw long (done (at + len) refl some)))))

    plain : is_cut num len left ≡ ltb left len
        → Same num (begun at (try (read_slice_without_offset_check file (at + 5) (len - 5)) finish)) (payload_at (Some 0) at num len left rest)
    unfolding read_slice_without_offset_check payload_at
    plain cut =
        rw (exact, cut, le-ltb (len - 5) 0 (omega arith))
        (decide (ltb left len)
        (λ e. rw e refl)
        (λ e. rw e (done (at + len) refl some)))

    sixth : is_cut num len left ≡ (ltb left len || ltb left 6) → eqb num 6 ≡ true
        → Same num (begun at (try (read_sect6_payload file (at + 5) (len - 5)) finish)) (payload_at (Some 1) at num len left rest)
    unfolding read_sect6_payload Cursor-read_exact payload_at
    sixth cut six =
        rw (cut, same_test (length file - (at + 5)) 1 left 6 (λ p. omega arith) (λ p. omega arith))
        (decide (ltb left 6)
        (λ short. rw (short, or_true (ltb left len)) refl)
        (λ e.
        let p = ltb-false left 6 e in
        rw (e, or_false (ltb left len))
        (decide (ltb (len - 5) 1)
        (λ none_left.
        let q = ltb-true (len - 5) 1 none_left in
        rw (none_left, le-ltb left len (omega arith), six) refl)
        (λ some_left.
        let q = ltb-false (len - 5) 1 some_left in
        rw some_left
        (decide (ltb 0 (len - 5 - 1))
        (λ more.
        let end : at + 5 + 1 + (len - 5 - 1) ≡ at + len = omega arith in
        rw (more, same_test (length file - (at + 5 + 1)) (len - 5 - 1) left len (λ h. omega arith) (λ h. omega arith), end)
        (decide (ltb left len)
        (λ short. rw short refl)
        (λ enough. rw enough (done (at + len) refl some))))
        (λ no_more.
        let z = ltb-false 0 (len - 5 - 1) no_more in
        rw (no_more, le-ltb left len (omega arith)) (done (at + 5 + 1) (omega arith) some)))))))

    seventh : at + len < 18446744073709551616 → is_cut num len left ≡ false
        → Same num (begun at (try (skip_sect7_payload (at + 5) (len - 5)) finish)) (payload_at (Some 0) at num len left rest)
    unfolding skip_sect7_payload payload_at
    seventh below cut =
        rw (cut, seek_is (at + 5) (len - 5) 0 (at + len) (omega arith) below, le-ltb (len - 5) 0 (omega arith)) (done (at + len) refl some)

module _ (file : List ℕ) (at rest len : ℕ) (five : 5 ≤ len) (room : at + 5 ≤ length file) (below : at + len < 18446744073709551616) where
  body : (num : ℕ)
      → Same num (begun at (try (read_body num file (at + 5) (len - 5)) (finish file at rest len num)))
      (payload_at (least_payload_of num) at num len (length file - at) rest)
  unfolding read_body least_payload_of kind_of kinds is_cut payload_at
  body num =
      decide (eqb num 0) (λ e. rw (eqb-true num 0 e) refl) λ n0.
      decide (eqb num 1) (λ e. rw (eqb-true num 1 e) (checked file at rest len 1 five room refl 16 (or_false _) refl)) λ n1.
      decide (eqb num 2) (λ e. rw (eqb-true num 2 e) (plain file at rest len 2 five room refl (or_false _))) λ n2.
      decide (eqb num 3) (λ e. rw (eqb-true num 3 e) (checked file at rest len 3 five room refl 9 (or_false _) refl)) λ n3.
      decide (eqb num 4) (λ e. rw (eqb-true num 4 e) (checked file at rest len 4 five room refl 4 (or_false _) refl)) λ n4.
      decide (eqb num 5) (λ e. rw (eqb-true num 5 e) (checked file at rest len 5 five room refl 6 (or_false _) refl)) λ n5.
      decide (eqb num 6) (λ e. rw (eqb-true num 6 e) (sixth file at rest len 6 five room refl refl refl)) λ n6.
      decide (eqb num 7) (λ e. rw (eqb-true num 7 e) (seventh file at rest len 7 five room refl below refl)) λ n7.
      decide (eqb num 8) (λ e. rw (eqb-true num 8 e) refl) λ n8.
      rw (n0, n1, n2, n3, n4, n5, n6, n7, n8) refl

headed : (file : List ℕ) (at rest : ℕ) → length file ≤ 1099511627776 → Octets file → at < length file
    → Same (get_or file (at + 4) 0) (next_sect file (stream at rest)) (header_at file at rest)
unfolding next_sect read_sect_header read_sect_payload Cursor-read header_at
headed file at rest most octets inside =
    let len = be_at file at 4 in
    let back : at + rest - rest ≡ at = omega arith in
    decide (ltb (length file - at) 5)
    (λ e.
    let p = ltb-true (length file - at) 5 e in
    rw (e, ne_eqb (length file - at) 0 (omega arith), ne_eqb (length file - at) 5 (omega arith)) refl)
    (λ e.
    let p = ltb-false (length file - at) 5 e in
    rw (e, le-ltb (at + rest) rest (omega arith), back)
    (decide (ltb len 5)
    (λ short. rw short refl)
    (λ long.
    rw long
    (body file at rest len (ltb-false len 5 long) (omega arith) (omega (arith, be_lt file at (λ i. omega (arith, octets i)) 4)) (get_or file (at + 4) 0)))))

-- where no octet is left
over8 : (file : List ℕ) (at rest : ℕ) → length file ≤ at → next_sect8 file (stream at rest) ≡ none
unfolding next_sect8 read_sect8 Cursor-read
over8 file at rest outside =
    let z : length file - at ≡ 0 = omega arith in rw z

over : (file : List ℕ) (at rest : ℕ) → length file ≤ at → next_sect file (stream at rest) ≡ none
unfolding next_sect read_sect_header Cursor-read
over file at rest outside =
    let z : length file - at ≡ 0 = omega arith in rw z

-- one call is one read
pub one_section : (file : List ℕ) (at rest : ℕ) → length file ≤ 1099511627776 → Octets file
    → Grib2SectionStream-next file (stream at rest) ≡ pick (leaves file at rest) overflows (told (read_at file at rest))
unfolding Grib2SectionStream-next read_at leaves
one_section file at rest most octets =
    by_test_2 S (eqb rest 0)
    (λ e. sect0 number file at (at + rest) rest most (let z = eqb-true rest 0 e in omega arith))
    (λ within.
    decide (leb (length file) at)
    (λ e. rw e
    (let outside = leb-true (length file) at e in
    by_test (λ (a : NextSection). a ≡ none) (eqb rest 4) (λ f. over8 file at rest outside) (λ f. over file at rest outside)))
    (λ e. rw e
    (let inside = leb-false (length file) at e in
    by_test_2 S (eqb rest 4)
    (λ four. sect8 number file at rest inside (eqb-true rest 4 four))
    (λ other. headed file at rest most octets inside))))
  where
    number : ℕ
    number = get_or file (at + 4) 0

    S : NextSection → Read → Type 0
    S = Same number
