-- What every walk tells, pinned to the file and to the sections told (01, "Framing", "Order"), for
-- any file and any room: rows are sections as they stand in the file, and a line holds the last
-- section of each number before its section 7. The statements are proved in proofs/Rows, Pins and
-- OneLine.antt, under their names in small letters.
use Rattle.std.specs.Prelude.{ℕ, ◌+◌, ◌≤◌, ◌<◌, ◌≡◌, List, [], ◌∷◌, ◌++◌, map, ◌⊎◌, eqb, length, get_or, take, drop, Option, Some, None}
use Rattle.octets.specs.Words.{pick, Not}
use Rattle.octets.specs.BigEndian.{be_at}
use Rattle.framing.specs.LaidOut.{LaidOut}
use Rattle.framing.specs.declared.read.Section.{Section}
use Rattle.index.specs.Lines.{place, unlisted}
use Rattle.index.specs.declared.line.Line.{Line}
use Rattle.index.specs.declared.bounds.Room.{Room}
use Rattle.index.specs.Walk.{walked}
use Rattle.index.specs.Numbers.{end_of}
use Rattle.order.specs.declared.Place.{Place}

-- it is so of each
abbrev pub Every : {A : Type 0} → (A → Type 0) → List A → Type 0
Every So [] = Unit
Every So (a ∷ more) = So a × Every So more

-- each row told is a section as it stands in the file, one after the other
abbrev pub RowsAreLaidOut : Type 0
RowsAreLaidOut =
    (room : Room) (file : List ℕ) → LaidOut file 0 0 (walked room file).sections

-- where the walk ends clean, or the input is over inside a message, no more of them stand there
abbrev pub OverTellsAll : Type 0
OverTellsAll =
    (room : Room) (file : List ℕ) (more : List Section)
    → let n = (end_of (walked room file).outcome).outcome in
    (n ≡ 0) ⊎ (n ≡ 10)
    → LaidOut file 0 0 ((walked room file).sections ++ more) → more ≡ []

-- and where it is refused with 11 to 14, the section just read is the one that stands next
pub record StandsNext (file : List ℕ) (told : List Section) (offset : ℕ) : Type 0 where
  pub next : Section
  pub at_offset : next.offset.0 ≡ offset
  pub behind : LaidOut file 0 0 (told ++ (next ∷ []))

abbrev pub JustReadStandsNext : Type 0
JustReadStandsNext =
    (room : Room) (file : List ℕ)
    → let end = end_of (walked room file).outcome in
    11 ≤ end.outcome → StandsNext file (walked room file).sections end.offset

-- the section told at a place of the list
abbrev pub told_at : List Section → ℕ → Section
told_at told p = get_or told p unlisted.section

-- at a place of the list a section of this number is told
abbrev pub ToldAt : List Section → ℕ → ℕ → Type 0
ToldAt told number p = (p < length told) × ((told_at told p).number ≡ number)

-- from the place `from` on and before the place v, the last section of this number is told at p
pub record LastBefore (told : List Section) (number from v p : ℕ) : Type 0 where
  pub low : from ≤ p
  pub high : p < v
  pub there : ToldAt told number p
  pub last : (k : ℕ) → p < k → k < v → Not (ToldAt told number k)

-- the same of section 2, which may be absent
abbrev pub LocalBefore : List Section → ℕ → ℕ → Option Place → Type 0
LocalBefore told from v (Some p) = LastBefore told 2 from v p.0
LocalBefore told from v None = (k : ℕ) → from ≤ k → k < v → Not (ToldAt told 2 k)

-- how many sections of a list have the number
abbrev pub count_of : ℕ → List Section → ℕ
count_of number [] = 0
count_of number (s ∷ more) = pick (eqb s.number number) 1 0 + count_of number more

-- a line: its section 7 stands at the place `values`; its message starts at the last section 0
-- before that, and from there on the other sections are the last of their numbers
pub record PinnedLine (file : List ℕ) (told : List Section) (line : Line) : Type 0 where
  pub values : ToldAt told 7 line.values.0
  pub indicator : LastBefore told 0 0 line.values.0 line.indicator.0
  pub identification :
      LastBefore told 1 line.indicator.0 line.values.0 line.identification.0
  pub local : LocalBefore told line.indicator.0 line.values.0 line.local
  pub grid : LastBefore told 3 line.indicator.0 line.values.0 line.grid.0
  pub product : LastBefore told 4 line.indicator.0 line.values.0 line.product.0
  pub representation :
      LastBefore told 5 line.indicator.0 line.values.0 line.representation.0
  pub bitmap : LastBefore told 6 line.indicator.0 line.values.0 line.bitmap.0
  -- messages count from 0 by their sections 0, submessages from 0 by the sections 7 before
  pub message : line.message ≡ count_of 0 (take line.indicator.0 told)
  pub submessage :
      line.submessage ≡ count_of 7 (drop line.indicator.0 (take line.values.0 told))
  -- it is closed at the next place where a section 8 is told there, and elsewhere goes on
  pub closed : ToldAt told 8 (line.values.0 + 1)
      → line.end ≡ Some (place (line.values.0 + 1))
  pub goes_on : Not (ToldAt told 8 (line.values.0 + 1)) → line.end ≡ None
  -- its message's octet offset is that of this section 0, which states the total length
  pub offset : line.span.offset ≡ (told_at told line.indicator.0).offset
  pub total : line.span.total ≡ be_at file (line.span.offset.0 + 8) 8

abbrev pub LinesArePinned : Type 0
LinesArePinned =
    (room : Room) (file : List ℕ)
    → Every (PinnedLine file (walked room file).sections) (walked room file).lines

-- and that leaves no choice: a section 7 has one line
abbrev pub OneLine : Type 0
OneLine =
    (file : List ℕ) (told : List Section) (line other : Line) → PinnedLine file told line
    → PinnedLine file told other → line.values.0 ≡ other.values.0 → line ≡ other

-- the places of the sections of this number, in order, where the first of the list has place p
abbrev pub places_from : ℕ → ℕ → List Section → List ℕ
places_from number p [] = []
places_from number p (s ∷ more) =
    let later = places_from number (p + 1) more in pick (eqb s.number number) (p ∷ later) later

-- refusals that come after the submessage of a last section 7 is complete: a section that is well
-- read completes it
abbrev pub AfterCompleting : ℕ → Type 0
AfterCompleting n = (n ≡ 11) ⊎ (n ≡ 13)

-- and those that come before: no section is well read, or a full table stops a line that is due
abbrev pub BeforeCompleting : ℕ → Type 0
BeforeCompleting n = ((2 ≤ n) × (n ≤ 10)) ⊎ ((n ≡ 13) ⊎ (n ≡ 14))

-- lines with these places of sections 7, where these are told and the walk ends with this number:
-- one for each, in order, but that one which is the last section told may wait for its line
pub data LineForEach7 (told : List Section) (places values : List ℕ) (n : ℕ) : Type 0 where
  each : places ≡ values
      → ((v : ℕ) → v + 1 ≡ length told → ToldAt told 7 v → AfterCompleting n)
      → LineForEach7 told places values n
  but_the_last : (v : ℕ) → places ≡ values ++ (v ∷ []) → v + 1 ≡ length told → BeforeCompleting n
      → LineForEach7 told places values n

abbrev pub ALineForEach7 : Type 0
ALineForEach7 =
    (room : Room) (file : List ℕ)
    → let told = walked room file in
    LineForEach7 told.sections (places_from 7 0 told.sections)
    (map (λ line. line.values.0) told.lines) (end_of told.outcome).outcome
