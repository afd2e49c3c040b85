-- What 01 says of every walk: closed messages are tiled by their sections ("Framing"), a true
-- section 8 never has place 0 ("Order"), and tables that are large enough change nothing. The
-- counts of an answer are the lengths of what is told, by definition: no statement says so. The
-- statements are proved in proofs/Messages, Counts, Places and Unlimited.antt, under their names in
-- small letters.
use Rattle.std.specs.Prelude.{ℕ, ◌+◌, ◌≤◌, ◌≡◌, List, [], ◌∷◌, ◌++◌, length, get_or, Option, Some, None}
use Rattle.octets.specs.Words.{Not}
use Rattle.framing.specs.declared.read.Section.{Section}
use Rattle.index.specs.declared.line.Line.{Line}
use Rattle.index.specs.Numbers.{end_of}
use Rattle.index.specs.Bounds.{unlimited}
use Rattle.index.specs.declared.bounds.Room.{Room}
use Rattle.index.specs.Walk.{Told, walked}
use Rattle.index.specs.Pins.{Every, count_of}
use Rattle.walk_laws.specs.ExactlyWhen.{total}
use Rattle.order.specs.declared.Place.{Place}

-- the sum of lengths
abbrev pub lengths : List Section → ℕ
lengths [] = 0
lengths (s ∷ more) = s.length + lengths more

-- each section starts where the one before ended, the first of them at `at`
abbrev pub EndToEnd : ℕ → List Section → Type 0
EndToEnd at [] = Unit
EndToEnd at (s ∷ more) = (s.offset.0 ≡ at) × EndToEnd (at + s.length) more

-- among the sections told, a message that is closed: a section 0, others, a section 8
pub record ClosedMessage (told : List Section) (zeroth : Section) (others : List Section)
    (eighth : Section) (after : List Section)
    : Type 0 where
  pub before : List Section
  pub listed : told ≡ before ++ (zeroth ∷ (others ++ (eighth ∷ after)))
  pub starts : zeroth.number ≡ 0
  pub inside : Every (λ s. Not (s.number ≡ 0)) others
  pub ends : eighth.number ≡ 8

-- in a closed message each section starts where the one before ended, and the lengths sum to the
-- total length
abbrev pub ClosedMessagesAreTiled : Type 0
ClosedMessagesAreTiled =
    (room : Room) (file : List ℕ) (zeroth : Section) (others : List Section) (eighth : Section)
    (after : List Section)
    → ClosedMessage (walked room file).sections zeroth others eighth after
    → EndToEnd zeroth.offset.0 (zeroth ∷ (others ++ (eighth ∷ [])))
    × (lengths (zeroth ∷ (others ++ (eighth ∷ []))) ≡ total file zeroth.offset.0)

-- every section 8 told closes such a message
pub record ClosesOne (told : List Section) (eighth : Section) (after : List Section) : Type 0 where
  pub zeroth : Section
  pub others : List Section
  pub message : ClosedMessage told zeroth others eighth after

abbrev pub EachEndClosesAMessage : Type 0
EachEndClosesAMessage =
    (room : Room) (file : List ℕ) (before : List Section) (eighth : Section) (after : List Section)
    → (walked room file).sections ≡ before ++ (eighth ∷ after)
    → eighth.number ≡ 8
    → ClosesOne (walked room file).sections eighth after

-- as many messages are closed as sections 8 are told
abbrev pub MessagesAreEnds : Type 0
MessagesAreEnds =
    (room : Room) (file : List ℕ)
    → (walked room file).messages ≡ count_of 8 (walked room file).sections

-- the number of the section at a place of the list; 0 where there is none
abbrev pub number_at : List Section → ℕ → ℕ
number_at told k = (get_or told k (record { number = 0; offset = record { 0 = 0 }; length = 0 })).number

-- a true section 8 never has place 0
abbrev pub NoEndAtPlace0 : Type 0
NoEndAtPlace0 =
    (room : Room) (file : List ℕ) (k : ℕ) → number_at (walked room file).sections k ≡ 8 → 1 ≤ k

-- behind a line its message goes on, or a section 8 is told that closes it
abbrev pub EndIsTold : List Section → Option Place → Type 0
EndIsTold told None = Unit
EndIsTold told (Some p) = number_at told p.0 ≡ 8

abbrev pub EndsAreTold : Type 0
EndsAreTold =
    (room : Room) (file : List ℕ)
    → Every (λ line. EndIsTold (walked room file).sections line.end) (walked room file).lines

-- as many messages are closed as lines are closed
abbrev pub closings : Option Place → ℕ
closings None = 0
closings (Some p) = 1

abbrev pub closers : List Line → ℕ
closers [] = 0
closers (line ∷ more) = closings line.end + closers more

abbrev pub MessagesAreClosers : Type 0
MessagesAreClosers =
    (room : Room) (file : List ℕ) → (walked room file).messages ≡ closers (walked room file).lines

-- no more sections are told than the file has octets, and no more lines than sections
abbrev pub FewerThanOctets : Type 0
FewerThanOctets =
    (room : Room) (file : List ℕ)
    → (length (walked room file).sections ≤ length file)
    × (length (walked room file).lines ≤ length (walked room file).sections)

-- no more sections and lines are told than the tables have room for
abbrev pub WithinRoom : Type 0
WithinRoom =
    (room : Room) (file : List ℕ)
    → (length (walked room file).sections ≤ room.rows)
    × (length (walked room file).lines ≤ room.lines)

-- the place of a refusal, but for 1 and 10, is that which the section in hand would have: as many
-- sections are told before it
abbrev pub PlaceIsCount : Type 0
PlaceIsCount =
    (room : Room) (file : List ℕ) (n p o d : ℕ) → Not (n ≡ 0) → Not (n ≡ 1) → Not (n ≡ 10)
    → end_of (walked room file).outcome ≡ record { outcome = n; place = p; offset = o; detail = d }
    → p ≡ length (walked room file).sections

-- the offset of the section at a place of the list
abbrev pub offset_at : List Section → ℕ → ℕ
offset_at told k =
    (get_or told k (record { number = 0; offset = record { 0 = 0 }; length = 0 })).offset.0

-- 10 has the place and the offset of the last section told
abbrev pub InputOverAtLast : Type 0
InputOverAtLast =
    (room : Room) (file : List ℕ) (p o d : ℕ)
    → end_of (walked room file).outcome ≡ record { outcome = 10; place = p; offset = o; detail = d }
    → (p + 1 ≡ length (walked room file).sections) × (o ≡ offset_at (walked room file).sections p)

-- with unlimited room neither 13 nor 14 is given
abbrev pub UnlimitedIsNeverFull : Type 0
UnlimitedIsNeverFull =
    (file : List ℕ)
    → Not ((end_of (walked unlimited file).outcome).outcome ≡ 13)
    × Not ((end_of (walked unlimited file).outcome).outcome ≡ 14)

-- what is told of the file is where the whole begins
pub record BeginsWith (whole told : Told) : Type 0 where
  pub more_sections : List Section
  pub more_lines : List Line
  pub sections : whole.sections ≡ told.sections ++ more_sections
  pub lines : whole.lines ≡ told.lines ++ more_lines

-- lent tables of any size: a walk tells the beginning of what it tells with unlimited ones
abbrev pub BeginsTheUnlimited : Type 0
BeginsTheUnlimited =
    (room : Room) (file : List ℕ) → BeginsWith (walked unlimited file) (walked room file)

-- and all of it, to the same end, where they hold its sections and lines
abbrev pub HeldIsUnlimited : Type 0
HeldIsUnlimited =
    (room : Room) (file : List ℕ)
    → length (walked unlimited file).sections ≤ room.rows
    → length (walked unlimited file).lines ≤ room.lines
    → walked room file ≡ walked unlimited file
