-- Refusals 1 to 14 by their rows (01, "Refusal numbers"): each is given exactly when its row holds
-- and no row before it does, in 01's order. What is said here of reading and order stands by
-- itself, in 01's numbers, beside the definitions that the code is held to. The two statements are
-- proved in proofs/WholeWalk.antt, under their names in small letters.
use Rattle.std.specs.Prelude.{ℕ, ◌+◌, ◌-◌, ◌^◌, ◌≤◌, ◌<◌, ◌≡◌, List, [], ◌∷◌, ◌⊎◌, length, get_or}
use Rattle.octets.specs.Words.{Not, Iff}
use Rattle.octets.specs.BigEndian.{be_at}
use Rattle.framing.specs.LaidOut.{
  Spells,
  HasGrib,
  FirstGrib,
  section_of,
  stated_length,
  stated_number,
}
use Rattle.framing.specs.declared.read.Section.{Section}
use Rattle.order.specs.declared.Order.{Order}
use Rattle.order.specs.declared.Order.TheVariants.{
  BetweenMessages,
  AfterIndicator,
  AfterIdentification,
  AfterLocalUse,
  AfterGrid,
  AfterProduct,
  AfterRepresentation,
  AfterBitMap,
  AfterData,
  SubmessageStart,
}
use Rattle.index.specs.Numbers.{end_of}
use Rattle.index.specs.declared.bounds.Room.{Room}
use Rattle.index.specs.Walk.{walked}
use Rattle.walk_laws.specs.Rows.{Rows, no_more, row, FirstRow, NoRow}

-- 1: a file is at most 2^40 octets
abbrev pub TooLong : List ℕ → Type 0
TooLong file = 2 ^ 40 < length file

abbrev pub NotTooLong : List ℕ → Type 0
NotTooLong file = length file ≤ 2 ^ 40

-- octets left in the file
abbrev pub left : List ℕ → ℕ → ℕ
left file at = length file - at

-- Section 0, from its G on: edition, and total length in 8.
abbrev pub edition : List ℕ → ℕ → ℕ
edition file g = get_or file (g + 7) 0

abbrev pub total : List ℕ → ℕ → ℕ
total file g = be_at file (g + 8) 8

-- 3: edition not 2
abbrev pub OtherEdition : List ℕ → ℕ → Type 0
OtherEdition file g = Not (edition file g ≡ 2)

-- 4: total length under 16
abbrev pub TotalUnder16 : List ℕ → ℕ → Type 0
TotalUnder16 file g = total file g < 16

-- Section 0: 3, 4.
abbrev pub rows0 : List ℕ → ℕ → Rows
rows0 file g =
    row 3 (OtherEdition file g) (edition file g)
    (row 4 (TotalUnder16 file g) 0
    no_more)

-- 2: 1 to 3 octets left for section 8
abbrev pub EndCut : List ℕ → ℕ → Type 0
EndCut file at = (1 ≤ left file at) × (left file at ≤ 3)

-- 5: section 8 not "7777"
abbrev pub NotSevens : List ℕ → ℕ → Type 0
NotSevens file at = Not (Spells file at 55 55 55 55)

-- Section 8: 2, 5. The detail of 2 is the count of missing octets (02, Ticket 2), here 4 less what
-- is left.
abbrev pub rows8 : List ℕ → ℕ → Rows
rows8 file at =
    row 2 (EndCut file at) (4 - left file at)
    (row 5 (NotSevens file at) 0
    no_more)

-- A header: length in 4, number in 1; then length less 5 of payload.
abbrev pub payload : List ℕ → ℕ → ℕ
payload file at = stated_length file at - 5

-- 2: 1 to 4 octets left for a header
abbrev pub HeaderCut : List ℕ → ℕ → Type 0
HeaderCut file at = (1 ≤ left file at) × (left file at ≤ 4)

-- 6: section length under 5
abbrev pub LengthUnder5 : List ℕ → ℕ → Type 0
LengthUnder5 file at = stated_length file at < 5

-- 7: number not 1 to 7 in a header
abbrev pub NumberNot1To7 : List ℕ → ℕ → Type 0
NumberNot1To7 file at = Not ((1 ≤ stated_number file at) × (stated_number file at ≤ 7))

-- where the payload ends, as its header states it
abbrev pub stated_end : List ℕ → ℕ → ℕ
stated_end file at = at + stated_length file at

-- 2: payload of 1 to 6 cut
abbrev pub PayloadCut : List ℕ → ℕ → Type 0
PayloadCut file at =
    (1 ≤ stated_number file at) × (stated_number file at ≤ 6) × (length file < stated_end file at)

-- 2: a section 6 of length 5, and the file ends after its header
abbrev pub IndicatorCut : List ℕ → ℕ → Type 0
IndicatorCut file at =
    (stated_number file at ≡ 6) × (stated_length file at ≡ 5) × (length file ≡ stated_end file at)

-- 8: payload under its least, of sections 1 to 7: 16, none, 9, 4, 6, 1, none
abbrev pub least_octets : ℕ → ℕ
least_octets number = get_or (16 ∷ 0 ∷ 9 ∷ 4 ∷ 6 ∷ 1 ∷ 0 ∷ []) (number - 1) 0

abbrev pub UnderLeast : List ℕ → ℕ → Type 0
UnderLeast file at = payload file at < least_octets (stated_number file at)

-- 9: section longer than the rest
abbrev pub LongerThanRest : List ℕ → ℕ → ℕ → Type 0
LongerThanRest file at rest = rest < stated_length file at

-- A section with a header: 2 (header), 6, 7, 2 (payload), 8, 9. Missing are 5 less what is left for
-- a header, a payload's stated end less the file's length, 1 for a section 6 of length 5.
abbrev pub rows_behind_header : List ℕ → ℕ → ℕ → Rows
rows_behind_header file at rest =
    row 2 (HeaderCut file at) (5 - left file at)
    (row 6 (LengthUnder5 file at) (stated_length file at)
    (row 7 (NumberNot1To7 file at) (stated_number file at)
    (row 2 (PayloadCut file at) (stated_end file at - length file)
    (row 2 (IndicatorCut file at) 1
    (row 8 (UnderLeast file at) (payload file at)
    (row 9 (LongerThanRest file at rest) (stated_length file at)
    no_more))))))

-- The section in hand where a read is made at `at` with `rest` octets of the message to come: this
-- is so of it, of the octets of the message behind it, and of its rows.
pub data InHand (file : List ℕ) (at rest : ℕ) (So : Section → ℕ → Rows → Type 0) : Type 0 where
  hand0 : {g : ℕ} → rest ≡ 0 → FirstGrib file at g
      → So (section_of 0 g 16) (total file g - 16) (rows0 file g)
      → InHand file at rest So
  hand8 : rest ≡ 4 → at < length file → So (section_of 8 at 4) 0 (rows8 file at)
      → InHand file at rest So
  behind_header : Not (rest ≡ 0) → Not (rest ≡ 4) → at < length file
      → So (section_of (stated_number file at) at (stated_length file at))
      (rest - stated_length file at) (rows_behind_header file at rest)
      → InHand file at rest So

-- there is none, the input is over: no message starts, or no octet is left where a header or
-- section 8 is due
pub data NoneInHand (file : List ℕ) (at rest : ℕ) : Type 0 where
  no_start : rest ≡ 0 → ((g : ℕ) → at ≤ g → Not (HasGrib file g)) → NoneInHand file at rest
  no_octet : Not (rest ≡ 0) → length file ≤ at → NoneInHand file at rest

-- it can't be read: the first row that holds has this number and detail, and the section would have
-- this offset
abbrev pub CannotBeRead : List ℕ → ℕ → ℕ → ℕ → ℕ → ℕ → Type 0
CannotBeRead file at rest n offset d =
    InHand file at rest (λ s behind rows. (offset ≡ s.offset.0) × FirstRow rows n d)

-- it is this section, with so many octets of the message behind it, and no row holds: well read
abbrev pub WellRead : List ℕ → ℕ → ℕ → Section → ℕ → Type 0
WellRead file at rest section rest' =
    InHand file at rest (λ s behind rows. (section ≡ s) × (rest' ≡ behind) × NoRow rows)

-- what may come next; every other number is a misfit
abbrev pub CanCome : Order → ℕ → Type 0
CanCome BetweenMessages n = n ≡ 0
CanCome AfterIndicator n = n ≡ 1
CanCome AfterIdentification n = (n ≡ 2) ⊎ (n ≡ 3)
CanCome AfterLocalUse n = n ≡ 3
CanCome AfterGrid n = n ≡ 4
CanCome AfterProduct n = n ≡ 5
CanCome AfterRepresentation n = n ≡ 6
CanCome AfterBitMap n = n ≡ 7
CanCome AfterData n = (n ≡ 8) ⊎ ((n ≡ 2) ⊎ ((n ≡ 3) ⊎ (n ≡ 4)))
CanCome SubmessageStart n = (n ≡ 2) ⊎ ((n ≡ 3) ⊎ (n ≡ 4))

-- a 4 right after 1
abbrev pub NoGridYet : Order → ℕ → Type 0
NoGridYet order n = (order ≡ AfterIdentification) × (n ≡ 4)

-- after 7 any section but 8 completes a submessage that goes on, and section 8 closes the message:
-- a line is due
abbrev pub GoesOn : Order → ℕ → Type 0
GoesOn order n = (order ≡ AfterData) × Not (n ≡ 8)

abbrev pub ClosesMessage : Order → ℕ → Type 0
ClosesMessage order n = (order ≡ AfterData) × (n ≡ 8)

-- What stands before a read: where it is made, with how many octets of the message to come; how
-- many sections and lines are told; what was read last, and the offset at which it stands.
pub record Stand : Type 0 where
  pub at : ℕ
  pub rest : ℕ
  pub sections : ℕ
  pub lines : ℕ
  pub order : Order
  pub last : ℕ

-- the tables are full
abbrev pub RowsFull : Room → Stand → Type 0
RowsFull room b = room.rows ≤ b.sections

abbrev pub LinesFull : Room → Stand → Type 0
LinesFull room b = room.lines ≤ b.lines

-- After a good read: 14 for a submessage that goes on, then 11 or 12, then 13; for a section 8 that
-- closes: 13, then 14.
abbrev pub rows_after_read : Room → Stand → ℕ → Rows
rows_after_read room b n =
    row 14 (GoesOn b.order n × LinesFull room b) 0
    (row 12 (NoGridYet b.order n) n
    (row 11 (Not (CanCome b.order n)) n
    (row 13 (RowsFull room b) 0
    (row 14 (ClosesMessage b.order n × LinesFull room b) 0
    no_more))))

-- what was read last, by its number; a section 8 leaves no message open
abbrev pub order_after : ℕ → Order
order_after n =
    get_or
    (AfterIndicator
    ∷ AfterIdentification
    ∷ AfterLocalUse
    ∷ AfterGrid
    ∷ AfterProduct
    ∷ AfterRepresentation
    ∷ AfterBitMap
    ∷ AfterData
    ∷ []) n BetweenMessages

-- a section that is passed behind a 7 tells a line, of a submessage that goes on or of one that is
-- its message's last
abbrev pub lines_behind : Order → ℕ → ℕ
lines_behind AfterData lines = lines + 1
lines_behind BetweenMessages lines = lines
lines_behind AfterIndicator lines = lines
lines_behind AfterIdentification lines = lines
lines_behind AfterLocalUse lines = lines
lines_behind AfterGrid lines = lines
lines_behind AfterProduct lines = lines
lines_behind AfterRepresentation lines = lines
lines_behind AfterBitMap lines = lines
lines_behind SubmessageStart lines = lines

-- before the first read; nothing asks for `last` until a section is passed
abbrev pub file_start : Stand
file_start =
    record { at = 0; rest = 0; sections = 0; lines = 0; order = BetweenMessages; last = 0 }

-- a section is passed: the next read is made at its end
abbrev pub stand_behind : Stand → Section → ℕ → Stand
stand_behind b s rest' =
    record {
      at = s.offset.0 + s.length;
      rest = rest';
      sections = b.sections + 1;
      lines = lines_behind b.order b.lines;
      order = order_after s.number;
      last = s.offset.0;
    }

-- The whole walk. It comes to a stand: each section before was well read, and no row held of it.
pub data Comes (room : Room) (file : List ℕ) : Stand → Type 0 where
  started : Comes room file file_start
  goes_further : {b : Stand} {s : Section} {rest' : ℕ}
      → Comes room file b
      → WellRead file b.at b.rest s rest'
      → NoRow (rows_after_read room b s.number)
      → Comes room file (stand_behind b s rest')

-- number, place, offset and detail of a refusal: for 1 zeros; for 2 to 9 those that the section in
-- hand would have; for 10 those of the last section read; for 11 to 14 those of the section just
-- read
pub data Given (room : Room) (file : List ℕ) : ℕ → ℕ → ℕ → ℕ → Type 0 where
  too_long : TooLong file → Given room file 1 0 0 0
  unread : {b : Stand} {n offset d : ℕ} → NotTooLong file → Comes room file b
      → CannotBeRead file b.at b.rest n offset d
      → Given room file n b.sections offset d
  input_over : {b : Stand} {last : ℕ} → NotTooLong file → Comes room file b
      → NoneInHand file b.at b.rest
      → Not (b.order ≡ BetweenMessages)
      → b.sections ≡ last + 1
      → Given room file 10 last b.last 0
  misjudged : {b : Stand} {s : Section} {rest' n d : ℕ} → NotTooLong file → Comes room file b
      → WellRead file b.at b.rest s rest'
      → FirstRow (rows_after_read room b s.number) n d
      → Given room file n b.sections s.offset.0 d

-- a clean end: the input is over before a message
pub data EndsClean (room : Room) (file : List ℕ) : Type 0 where
  between : {b : Stand} → NotTooLong file → Comes room file b
      → NoneInHand file b.at b.rest
      → b.order ≡ BetweenMessages
      → EndsClean room file

-- 1 to 14, of a walk
abbrev pub WalkRefusedExactlyWhen : Type 0
WalkRefusedExactlyWhen =
    (room : Room) (file : List ℕ) (n p o d : ℕ) → Not (n ≡ 0)
    → Iff (end_of (walked room file).outcome
    ≡ record { outcome = n; place = p; offset = o; detail = d }) (Given room file n p o d)

-- 0, with three zeros
abbrev pub WalkCleanExactlyWhen : Type 0
WalkCleanExactlyWhen =
    (room : Room) (file : List ℕ)
    → Iff (end_of (walked room file).outcome
    ≡ record { outcome = 0; place = 0; offset = 0; detail = 0 }) (EndsClean room file)
