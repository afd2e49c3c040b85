-- Sections as they stand in a file (01, "Framing"): what every listing has to be, in 01's own
-- numerals and with none of the reader's definitions. The statements are proved in
-- proofs/LaidOut, OneLayout and AllListed.antt, under their names in small letters.
use Rattle.std.specs.Prelude.{ℕ, ◌+◌, ◌≤◌, ◌<◌, ◌≡◌, List, [], ◌∷◌, ◌++◌, length, get_or}
use Rattle.octets.specs.Words.{Not}
use Rattle.octets.specs.BigEndian.{be_at}
use Rattle.framing.specs.declared.read.Section.{Section}
use Rattle.framing.specs.Listing.{over, listing}

-- the four octets from a place on
abbrev pub Spells : List ℕ → ℕ → ℕ → ℕ → ℕ → ℕ → Type 0
Spells file at a b c d =
    (get_or file at 0 ≡ a) × (get_or file (at + 1) 0 ≡ b)
    × (get_or file (at + 2) 0 ≡ c) × (get_or file (at + 3) 0 ≡ d)

-- "GRIB", with 16 octets from its G to the end of file
abbrev pub HasGrib : List ℕ → ℕ → Type 0
HasGrib file g = (g + 16 ≤ length file) × Spells file g 71 82 73 66

-- the first one at or after a place
abbrev pub FirstGrib : List ℕ → ℕ → ℕ → Type 0
FirstGrib file at g =
    (at ≤ g) × HasGrib file g × ((k : ℕ) → at ≤ k → k < g → Not (HasGrib file k))

-- a section by its number, offset and length
abbrev pub section_of : ℕ → ℕ → ℕ → Section
section_of number offset len =
    record { number = number; offset = record { 0 = offset }; length = len }

-- the length and the number that a header states
abbrev pub stated_length : List ℕ → ℕ → ℕ
stated_length file at = be_at file at 4

abbrev pub stated_number : List ℕ → ℕ → ℕ
stated_number file at = get_or file (at + 4) 0

-- sections from a place of the file on, with so many octets of the message to come
pub data LaidOut (file : List ℕ) : ℕ → ℕ → List Section → Type 0 where
  -- a list may end anywhere
  nothing_more : {at rest : ℕ} → LaidOut file at rest []
  -- rest 0: section 0 is the first "GRIB" from there on, of 16 octets; the rest is then the total
  -- length less 16
  indicator_next : {at g rest : ℕ} {more : List Section} → FirstGrib file at g
      → 16 + rest ≡ be_at file (g + 8) 8
      → LaidOut file (g + 16) rest more
      → LaidOut file at 0 (section_of 0 g 16 ∷ more)
  -- rest exactly 4: section 8 is "7777", and no more of the message is to come
  end_next : {at : ℕ} {more : List Section} → Spells file at 55 55 55 55
      → LaidOut file (at + 4) 0 more
      → LaidOut file at 4 (section_of 8 at 4 ∷ more)
  -- any other rest: a section 1 to 7 with the length and the number that its header states, taken
  -- from the rest; a section 7 alone may run past the end of file, and has its stated length too
  headed_next : {at rest later : ℕ} {more : List Section} → Not (rest ≡ 0) → Not (rest ≡ 4)
      → (1 ≤ stated_number file at) × (stated_number file at ≤ 7)
      → (Not (stated_number file at ≡ 7) → at + stated_length file at ≤ length file)
      → stated_length file at + later ≡ rest
      → LaidOut file (at + stated_length file at) later more
      → LaidOut file at rest (section_of (stated_number file at) at (stated_length file at) ∷ more)

-- every file's listing is laid out so, from its start
abbrev pub ListingIsLaidOut : Type 0
ListingIsLaidOut = (file : List ℕ) → LaidOut file 0 0 (listing file).sections

-- and that leaves no choice: from a place on, lists of one length are laid out in one way
abbrev pub OneLayout : Type 0
OneLayout =
    (file : List ℕ) (at rest : ℕ) (some others : List Section) → LaidOut file at rest some
    → LaidOut file at rest others → length some ≡ length others → some ≡ others

-- where the input is over no more sections are laid out than are listed
abbrev pub OverListsAll : Type 0
OverListsAll =
    (file : List ℕ) (more : List Section) → (listing file).ending ≡ over
    → LaidOut file 0 0 ((listing file).sections ++ more) → more ≡ []
