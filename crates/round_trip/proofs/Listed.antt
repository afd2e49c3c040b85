-- The listing of a written message is the plan's sections, with section 0 before and section 8 after.
use Rattle.std.specs.Prelude.{Some}
use Prim.Native.Nat.{ℕ, suc, ◌+◌, ◌-◌, ◌≤◌, ◌<◌, ◌^◌}
use native.Mathlib.Omega.{arith}
use native.Mathlib.Nat.{add-zero, add_assoc, sub_self}
use mathlib.Core.Path.{◌≡◌, refl, ◌∙◌}
use mathlib.Core.Bool.{Bool, true, false, not, ◌&&◌, ◌||◌}
use mathlib.Core.List.{List, [], ◌∷◌, ◌++◌, append_assoc, append-nil}
use lib.Dec.{ltb, eqb}
use lib.ListN.{length, take, drop, get_or, length-append}
use lib.Seq.{get_or-append-add, get_or_at}
use borrow.Author.Tests.{eqb-true, le-ltb, le-leb, lt-leb, ne_eqb}
use Rattle.octets.specs.BigEndian.{be_at}
use Rattle.sections.specs.Kinds.{least_payload_of, kind_of, kinds}
use Rattle.framing.specs.Search.{says, starts_at, start_among, next_start}
use Rattle.framing.specs.Framing.{section_at as section_at, indicator_at, end_at, is_cut, payload_at, header_at, message_at, read_at}
use Rattle.framing.specs.Listing.{over, listing}
use Rattle.framing.specs.declared.read.Section.{Section}
use Rattle.framing.specs.Read.{Over}
use Rattle.framing.proofs.Listing.{listing_on, listing_next, listing_is}
use Rattle.writer.specs.Plan.{Part, sections_size, total_of}
use Rattle.writer.specs.Message.{digits, indicator_octets, section_octets, body_octets, message_octets}
use Rattle.writer.proofs.Checks.{Sound, AllSound, none, one}
use Rattle.writer.proofs.Stored.{length_digits}
use Rattle.writer.proofs.Lengths.{length_section, length_indicator}
use Rattle.round_trip.specs.ReadBack.{listed_as, sections_from, message_sections}
use Rattle.round_trip.proofs.Numbers.{be_behind, be_digits}

-- the plan's sections from an offset on, and section 8
unfoldable pub to_end : ℕ → List Part → List Section
to_end at [] = listed_as 8 at 4 ∷ []
to_end at (part ∷ more) = listed_as part.number at (part.length + 5) ∷ to_end (at + (part.length + 5)) more

pub to_end_lem : (at : ℕ) (parts : List Part) → to_end at parts ≡ sections_from at parts ++ (listed_as 8 (at + sections_size parts) 4 ∷ [])
unfolding to_end sections_from sections_size
to_end_lem at [] = rw add-zero
to_end_lem at (part ∷ more) = rw (to_end_lem (at + (part.length + 5)) more, add_assoc at (part.length + 5) (sections_size more))

abbrev end : List ℕ
end = 55 ∷ 55 ∷ 55 ∷ 55 ∷ []

-- the input is over at the file's end
over_there : (file : List ℕ) (at : ℕ) → length file ≡ at → read_at file at 0 ≡ Over
unfolding read_at message_at next_start start_among
over_there file at e = rw (e, sub_self)

-- section 8
end_there : (front : List ℕ) → read_at (front ++ end) (length front) 4 ≡ section_at 8 (length front) 4 0
unfolding read_at end_at says
end_there front =
    let file = front ++ end in
    let at = length front in
    let long : length file ≡ at + 4 = length-append front end in
    let octet : (n : ℕ) → get_or file (at + n) 0 ≡ get_or end n 0 = λ n. get_or-append-add front end n 0 in
    let first : get_or file at 0 ≡ 55 = rw add-zero at (octet 0) in
    rw (
      lt-leb (length file) at (omega arith),
      le-ltb (length file - at) 4 (omega arith),
      first,
      octet 1,
      octet 2,
      octet 3,
    )

-- the bit-map section has an octet of payload
least_6 : (number : ℕ) {least : ℕ} → least_payload_of number ≡ Some least → number ≡ 6 → 1 ≤ least
unfolding least_payload_of kind_of kinds
least_6 number {least} kind e =
    let known : Some 1 ≡ Some least = rw e at kind in
    let same : 1 ≡ least = cc in
    omega arith

-- a payload that is in the file is not cut
whole : (number len left : ℕ) → len ≤ left → (number ≡ 6 → 6 ≤ left) → is_cut number len left ≡ false
unfolding is_cut
whole number len left fits bit_map_lem = go (eqb number 7) (eqb number 6) refl
  where
    go : (a b : Bool) → eqb number 6 ≡ b → (not a && (ltb left len || (b && ltb left 6))) ≡ false
    go true b e = refl
    go false true e = rw (le-ltb left len fits, le-ltb left 6 (bit_map_lem (eqb-true number 6 e)))
    go false false e = rw (le-ltb left len fits)

-- a section behind its header
payload_there : (number least at octets left rest : ℕ) → least_payload_of number ≡ Some least → least ≤ octets → octets + 5 ≤ left
    → octets + 5 ≤ rest
    → payload_at (least_payload_of number) at number (octets + 5) left rest ≡ section_at number at (octets + 5) (rest - (octets + 5))
unfolding payload_at
payload_there number least at octets left rest kind enough inside fits =
    rw (
      kind,
      whole number (octets + 5) left inside (λ e. omega (arith, least_6 number kind e)),
      le-ltb (octets + 5 - 5) least (omega arith),
      le-ltb rest (octets + 5) fits,
    )

module _ (store front later : List ℕ) (part : Part) (sound : Sound (length store) part) where
  abbrev file : List ℕ
  file = front ++ (section_octets part store ++ later)

  abbrev payload : List ℕ
  payload = take part.length (drop part.offset store)

  split : section_octets part store ++ later ≡ digits 4 (part.length + 5) ++ (part.number ∷ (payload ++ later))
  unfolding section_octets
  split = simp append_assoc

  long : length file ≡ length front + (part.length + 5 + length later)
  long = rw (length-append front (section_octets part store ++ later), length-append (section_octets part store) later, length_section store part sound)

  number_there : get_or file (length front + 4) 0 ≡ part.number
  number_there =
      get_or-append-add front (section_octets part store ++ later) 4 0
      ∙ rw split (get_or_at (digits 4 (part.length + 5)) part.number (payload ++ later) 0 4 (length_digits 4 (part.length + 5)))

  length_there : be_at file (length front) 4 ≡ part.length + 5
  length_there =
      let small = sound.not_long in
      let e : be_at file (length front + 0) 4 ≡ part.length + 5 =
      be_behind front (section_octets part store ++ later) 0 4
      ∙ rw split (be_digits 4 (part.length + 5) (part.number ∷ (payload ++ later)) (omega arith)) in
      rw add-zero at e

  section_there : (rest : ℕ) → part.length + 5 < rest
      → read_at file (length front) rest ≡ section_at part.number (length front) (part.length + 5) (rest - (part.length + 5))
  unfolding read_at header_at
  section_there rest room =
      let n = long in
      rw (
        ne_eqb rest 0 (λ e. omega arith),
        lt-leb (length file) (length front) (omega arith),
        ne_eqb rest 4 (λ e. omega arith),
        le-ltb (length file - length front) 5 (omega arith),
        length_there,
        le-ltb (part.length + 5) 5 (omega arith),
        number_there,
      )
      (payload_there part.number sound.least (length front) part.length (length file - length front) rest sound.of_kind
      sound.not_short (omega arith) (omega arith))

-- the sections and section 8, behind any octets
body_listed : (store front : List ℕ) (parts : List Part) → AllSound (length store) parts
    → listing_on (front ++ body_octets parts store) (length front) (sections_size parts + 4)
    ≡ record { sections = to_end (length front) parts; ending = over }
unfolding body_octets sections_size to_end
body_listed store front [] none =
    let file = front ++ end in
    let long : length file ≡ length front + 4 = length-append front end in
    rw (
      listing_next file (length front) 4,
      end_there front,
      listing_next file (length front + 4) 0,
      over_there file (length front + 4) long,
    )
body_listed store front (part ∷ more) (one head tail) =
    let here = section_octets part store in
    let later = body_octets more store in
    let file = front ++ (here ++ later) in
    let rest = part.length + 5 + sections_size more + 4 in
    let left : rest - (part.length + 5) ≡ sections_size more + 4 = omega arith in
    let long : length (front ++ here) ≡ length front + (part.length + 5) =
    length-append front here ∙ rw (length_section store part head) in
    let ih : listing_on ((front ++ here) ++ later) (length (front ++ here)) (sections_size more + 4)
    ≡ record { sections = to_end (length (front ++ here)) more; ending = over } =
    body_listed store (front ++ here) more tail in
    let after : listing_on file (length front + (part.length + 5)) (sections_size more + 4)
    ≡ record { sections = to_end (length front + (part.length + 5)) more; ending = over } =
    rw (append_assoc front here later, long) at ih in
    rw (listing_next file (length front) rest, section_there store front later part head rest (omega arith), left, after)

-- a message starts at the file's start
starts_there : (file : List ℕ) → starts_at file 0 ≡ true → 0 < length file → next_start file 0 ≡ Some 0
unfolding next_start start_among
starts_there file starts some =
    let more : length file - 0 ≡ suc (length file - 1) = omega arith in
    rw (more, start_among, starts)

module _ (discipline reserved₁ reserved₂ total : ℕ) (later : List ℕ) where
  abbrev whole_file : List ℕ
  whole_file = indicator_octets discipline reserved₁ reserved₂ total ++ later

  long_file : length whole_file ≡ 16 + length later
  long_file =
      rw (length-append (indicator_octets discipline reserved₁ reserved₂ total) later, length_indicator discipline reserved₁ reserved₂ total)

  grib : starts_at whole_file 0 ≡ true
  unfolding starts_at says indicator_octets
  grib = let long = long_file in rw (le-leb (0 + 16) (length whole_file) (omega arith))

  sum_there : total < 256 ^ 8 → be_at whole_file 8 8 ≡ total
  unfolding indicator_octets
  sum_there small =
      be_behind (71 ∷ 82 ∷ 73 ∷ 66 ∷ reserved₁ ∷ reserved₂ ∷ discipline ∷ 2 ∷ []) (digits 8 total ++ later) 0 8
      ∙ be_digits 8 total later small

  indicator_there : total < 256 ^ 8 → 16 ≤ total → read_at whole_file 0 0 ≡ section_at 0 0 16 (total - 16)
  unfolding read_at message_at indicator_at indicator_octets
  indicator_there small enough =
      let long = long_file in
      rw (starts_there whole_file grib (omega arith), sum_there small, le-ltb total 16 enough)

-- the total length that section 0 alone says
pub total_there : (discipline reserved₁ reserved₂ total : ℕ) → total < 256 ^ 8
    → be_at (indicator_octets discipline reserved₁ reserved₂ total) 8 8 ≡ total
total_there discipline reserved₁ reserved₂ total small =
    rw append-nil at (sum_there discipline reserved₁ reserved₂ total [] small)

-- the listing of a written message
pub message_listed : (discipline reserved₁ reserved₂ : ℕ) (parts : List Part) (store : List ℕ) → AllSound (length store) parts
    → total_of parts ≤ 1099511627776
    → listing (message_octets discipline reserved₁ reserved₂ parts store) ≡ record { sections = message_sections parts; ending = over }
unfolding message_octets
message_listed discipline reserved₁ reserved₂ parts store sound small =
    let front = indicator_octets discipline reserved₁ reserved₂ (total_of parts) in
    let file = front ++ body_octets parts store in
    let left : total_of parts - 16 ≡ sections_size parts + 4 = omega arith in
    let after : listing_on file 16 (sections_size parts + 4) ≡ record { sections = to_end 16 parts; ending = over } =
    rw (length_indicator discipline reserved₁ reserved₂ (total_of parts)) at (body_listed store front parts sound) in
    listing_is file
    ∙ rw (
      listing_next file 0 0,
      indicator_there discipline reserved₁ reserved₂ (total_of parts) (body_octets parts store) (omega arith) (omega arith),
      left,
      after,
      to_end_lem 16 parts,
    )
