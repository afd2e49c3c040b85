-- The samples of 01 ("Sample files"), with the details that 02's Ticket 2 gives to those cut to 84
-- and 81, and lines that go on or are closed, with their message's offset and total length, as its
-- Ticket 7 has them: the starred ones as a single statement over their list, and the others;
-- proofs/Computed.antt has them by computing.
use Rattle.std.specs.Prelude.{ℕ, ◌+◌, ◌≡◌, List, [], ◌∷◌, ◌++◌, map, ℤ, pos, neg_ℤ, length, take, drop, replicate, Option, Some, None}
use Rattle.octets.specs.Signed.{signed_of}
use Rattle.framing.specs.declared.read.Section.{Section}
use Rattle.index.specs.Lines.{place, span}
use Rattle.index.specs.declared.line.Line.{Line}
use Rattle.index.specs.Numbers.{end_of}
use Rattle.index.specs.declared.numbers.End.{End}
use Rattle.index.specs.Bounds.{unlimited}
use Rattle.index.specs.Walk.{Told, walked}
use Rattle.order.specs.declared.Place.{Place}

-- section 0: "GRIB", 2 reserved, discipline, edition, total length in 8
abbrev pub sample0 : ℕ → List ℕ
sample0 total = 71 ∷ 82 ∷ 73 ∷ 66 ∷ 255 ∷ 255 ∷ 0 ∷ 2 ∷ 0 ∷ 0 ∷ 0 ∷ 0 ∷ 0 ∷ 0 ∷ 0 ∷ total ∷ []

-- a section with a header, and a payload of so many octets: "GRIB7777" over and over, which no walk
-- may take for a start or an end
abbrev pub sample_section : ℕ → ℕ → List ℕ
sample_section number size = 0 ∷ 0 ∷ 0 ∷ (size + 5) ∷ number ∷ take size (word ++ word)
  where
    word : List ℕ
    word = 71 ∷ 82 ∷ 73 ∷ 66 ∷ 55 ∷ 55 ∷ 55 ∷ 55 ∷ []

-- section 8: "7777"
abbrev pub sample8 : List ℕ
sample8 = 55 ∷ 55 ∷ 55 ∷ 55 ∷ []

-- sections 4, 5 and 6 with least payloads
abbrev pub from4to6 : List ℕ
from4to6 = sample_section 4 4 ++ sample_section 5 6 ++ sample_section 6 1

-- sections 0, 1, 3, 4, 5 and 6 with least payloads, of a message with this total length
abbrev pub before7 : ℕ → List ℕ
before7 total = sample0 total ++ sample_section 1 16 ++ sample_section 3 9 ++ from4to6

-- sections 0 to 7 with least payloads
abbrev pub to7 : ℕ → List ℕ
to7 total = before7 total ++ sample_section 7 0

-- 0, 1, 3, 4, 5, 6, 7, 8 with least payloads, 86 octets
abbrev pub file_a : List ℕ
file_a = to7 86 ++ sample8

-- A with 4, 5, 6, 7 again before its end, 117 octets
abbrev pub twice : List ℕ
twice = to7 117 ++ from4to6 ++ sample_section 7 0 ++ sample8

-- A, a section 5 after 7, total 97
abbrev pub five_after7 : List ℕ
five_after7 = to7 97 ++ sample_section 5 6 ++ sample8

-- A, section 7 of length 10, with this total length
abbrev pub longer7 : ℕ → List ℕ
longer7 total = before7 total ++ sample_section 7 5 ++ sample8

-- a line as it is printed: message, submessage, nine places, the message's offset and total length
abbrev pub line : ℕ → ℕ → ℕ → ℕ → Option Place → ℕ → ℕ → ℕ → ℕ → ℕ → Option Place → ℕ → ℕ → Line
line message submessage zeroth first second third fourth fifth sixth seventh eighth offset total =
    record {
      message = message;
      submessage = submessage;
      indicator = place zeroth;
      identification = place first;
      local = second;
      grid = place third;
      product = place fourth;
      representation = place fifth;
      bitmap = place sixth;
      values = place seventh;
      end = eighth;
      span = span (record { 0 = offset }) total;
    }

-- no section 2, and one at a place
abbrev pub no_local : Option Place
no_local = None

abbrev pub at : ℕ → Option Place
at n = Some (place n)

-- the message goes on, and a section 8 at a place
abbrev pub goes_on : Option Place
goes_on = None

abbrev pub closed_at : ℕ → Option Place
closed_at n = Some (place n)

-- outcome, place, offset, detail
abbrev pub end : ℕ → ℕ → ℕ → ℕ → End
end outcome place offset detail =
    record { outcome = outcome; place = place; offset = offset; detail = detail }

-- a walk as it is printed: how many sections, and their offsets; the submessage lines; how many
-- messages; the end
pub record Printed : Type 0 where
  pub sections : ℕ
  pub offsets : List ℕ
  pub submessages : List Line
  pub messages : ℕ
  pub ended : End

abbrev pub prints : ℕ → List ℕ → List Line → ℕ → End → Printed
prints sections offsets submessages messages ended =
    record {
      sections = sections;
      offsets = offsets;
      submessages = submessages;
      messages = messages;
      ended = ended;
    }

unfoldable pub printed : Told → Printed
printed told =
    prints (length told.sections) (map (λ (s : Section). s.offset.0) told.sections)
    told.lines told.messages
    (end_of told.outcome)

-- a sample is a file to walk, or octets that write a signed number
pub data Asked : Type 0 where
  file : List ℕ → Asked
  signed : List ℕ → Asked

-- what is answered
pub data Answered : Type 0 where
  walk : Printed → Answered
  number : Option ℤ → Answered

-- a file is walked with unlimited room
unfoldable pub answer : Asked → Answered
answer (file octets) = walk (printed (walked unlimited octets))
answer (signed octets) = number (signed_of octets)

-- what is asked, and the answer that 01 gives
pub record Sample : Type 0 where
  pub asked : Asked
  pub answered : Answered

abbrev pub walks : List ℕ → Printed → Sample
walks octets expected = record { asked = file octets; answered = walk expected }

abbrev pub is : List ℕ → ℤ → Sample
is octets expected = record { asked = signed octets; answered = number (Some expected) }

-- where the sections of A stand, up to its section 6, and up to its section 7
abbrev pub offsets6 : List ℕ
offsets6 = 0 ∷ 16 ∷ 37 ∷ 51 ∷ 60 ∷ 71 ∷ []

abbrev pub offsets7 : List ℕ
offsets7 = 0 ∷ 16 ∷ 37 ∷ 51 ∷ 60 ∷ 71 ∷ 77 ∷ []

-- the starred samples, in 01's order
unfoldable pub starred : List Sample
starred =
    walks file_a (prints 8 (0 ∷ 16 ∷ 37 ∷ 51 ∷ 60 ∷ 71 ∷ 77 ∷ 82 ∷ [])
    (line 0 0 0 1 no_local 2 3 4 5 6 (closed_at 7) 0 86 ∷ []) 1 (end 0 0 0 0))
    ∷ walks twice
    (prints 12 (offsets7 ++ 82 ∷ 91 ∷ 102 ∷ 108 ∷ 113 ∷ [])
    (line 0 0 0 1 no_local 2 3 4 5 6 goes_on 0 117
    ∷ line 0 1 0 1 no_local 2 7 8 9 10 (closed_at 11) 0 117 ∷ []) 1 (end 0 0 0 0))
    ∷ walks five_after7
    (prints 7 offsets7 (line 0 0 0 1 no_local 2 3 4 5 6 goes_on 0 97 ∷ []) 0 (end 11 7 82 5))
    ∷ walks (sample0 46 ++ sample_section 1 16 ++ sample_section 4 4)
    (prints 2 (0 ∷ 16 ∷ []) [] 0 (end 12 2 37 4))
    ∷ walks [] (prints 0 [] [] 0 (end 0 0 0 0))
    ∷ walks (take 82 file_a) (prints 7 offsets7 [] 0 (end 10 6 77 0))
    ∷ walks (take 84 file_a) (prints 7 offsets7 [] 0 (end 2 7 82 2))
    ∷ walks (take 84 (longer7 91)) (prints 7 offsets7 [] 0 (end 10 6 77 0))
    ∷ walks (take 84 (longer7 86)) (prints 6 offsets6 [] 0 (end 9 6 77 10))
    ∷ walks (to7 15 ++ sample8) (prints 0 [] [] 0 (end 4 0 0 0))
    ∷ walks (sample0 16) (prints 1 (0 ∷ []) [] 0 (end 10 0 0 0))
    ∷ is (128 ∷ 0 ∷ 1 ∷ []) (neg_ℤ (pos 1))
    ∷ is (128 ∷ 0 ∷ 0 ∷ []) (pos 0)
    ∷ []

-- a file of ours: a message with a section 2 and, after 7, a new section 3; then "GRI", and A
abbrev pub with_section2 : List ℕ
with_section2 =
    sample0 139 ++ sample_section 1 16 ++ sample_section 2 3 ++ sample_section 3 9 ++ from4to6
    ++ sample_section 7 0
    ++ sample_section 3 9 ++ from4to6 ++ sample_section 7 0 ++ sample8 ++ 71 ∷ 82 ∷ 73 ∷ file_a

-- a file of ours: A, with the whole of A as the payload of its section 7
abbrev pub inside7 : List ℕ
inside7 = before7 172 ++ 0 ∷ 0 ∷ 0 ∷ 91 ∷ 7 ∷ file_a ++ sample8

-- a file of ours: a total length of 2^64 less 1, and a section 4 after 7
abbrev pub largest_total : List ℕ
largest_total = take 8 (sample0 0) ++ replicate 8 255 ++ drop 16 (to7 0) ++ sample_section 4 4

-- the samples without a star, and those files: no start is looked for inside section 7; section 2
-- stays in force through the new 3, and not into the next message, which has its own offset; octets
-- stand before the first message; a section 0 inside a message that is not closed completes a line
-- of that message; a total length may be any
unfoldable pub others : List Sample
others =
    walks (take 15 file_a) (prints 0 [] [] 0 (end 0 0 0 0))
    ∷ walks (take 81 file_a) (prints 6 offsets6 [] 0 (end 2 6 77 1))
    ∷ walks (take 77 file_a) (prints 6 offsets6 [] 0 (end 10 5 71 0))
    ∷ walks (sample0 16 ++ file_a) (prints 1 (0 ∷ []) [] 0 (end 11 1 16 0))
    ∷ walks inside7
    (prints 8 (offsets7 ++ 168 ∷ []) (line 0 0 0 1 no_local 2 3 4 5 6 (closed_at 7) 0 172 ∷ []) 1
    (end 0 0 0 0))
    ∷ walks with_section2
    (prints 22
    (0 ∷ 16 ∷ 37 ∷ 45 ∷ 59 ∷ 68 ∷ 79 ∷ 85 ∷ 90 ∷ 104 ∷ 113 ∷ 124 ∷ 130 ∷ 135 ∷ 142 ∷ 158 ∷ 179 ∷ 193
    ∷ 202 ∷ 213 ∷ 219 ∷ 224 ∷ [])
    (line 0 0 0 1 (at 2) 3 4 5 6 7 goes_on 0 139
    ∷ line 0 1 0 1 (at 2) 8 9 10 11 12 (closed_at 13) 0 139
    ∷ line 1 0 14 15 no_local 16 17 18 19 20 (closed_at 21) 142 86 ∷ []) 2 (end 0 0 0 0))
    ∷ walks (97 ∷ 98 ∷ 99 ∷ five_after7)
    (prints 7 (3 ∷ 19 ∷ 40 ∷ 54 ∷ 63 ∷ 74 ∷ 80 ∷ [])
    (line 0 0 0 1 no_local 2 3 4 5 6 goes_on 3 97 ∷ []) 0 (end 11 7 85 5))
    ∷ walks (to7 82 ++ file_a)
    (prints 7 offsets7 (line 0 0 0 1 no_local 2 3 4 5 6 goes_on 0 82 ∷ []) 0 (end 11 7 82 0))
    ∷ walks largest_total
    (prints 8 (offsets7 ++ 82 ∷ [])
    (line 0 0 0 1 no_local 2 3 4 5 6 goes_on 0 18446744073709551615 ∷ []) 0 (end 10 7 82 0))
    ∷ is (255 ∷ 255 ∷ 255 ∷ []) (neg_ℤ (pos 8388607))
    ∷ is (127 ∷ 255 ∷ 255 ∷ []) (pos 8388607)
    ∷ []

-- each answer is the one expected
abbrev pub Hold : List Sample → Type 0
Hold samples =
    map (λ (s : Sample). answer s.asked) samples ≡ map (λ (s : Sample). s.answered) samples

-- 01's starred samples, all at once
abbrev pub StarredHold : Type 0
StarredHold = Hold starred

abbrev pub OthersHold : Type 0
OthersHold = Hold others
