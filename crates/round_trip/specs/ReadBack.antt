-- What it is for a written message to read back (01, "The writer", "Framing", "Order").
use Rattle.std.specs.Prelude.{ℕ, ◌+◌, ◌-◌, ◌≤◌, ◌≡◌, List, [], ◌∷◌, ◌++◌, map, eqb}
use Rattle.std.specs.Prelude.{length, take, drop, Some, Ok}
use Rattle.octets.specs.Words.{pick}
use Rattle.sections.specs.Indicator.{indicator_of}
use Rattle.framing.specs.Listing.{over, listing}
use Rattle.framing.specs.declared.read.Section.{Section}
use Rattle.index.specs.declared.bounds.Room.{Room}
use Rattle.index.specs.Walk.{Told, walked}
use Rattle.writer.specs.Plan.{Part, sections_size}

-- a line of the section table
abbrev pub listed_as : ℕ → ℕ → ℕ → Section
listed_as number offset length =
    record { number = number; offset = record { 0 = offset }; length = length }

-- a plan's sections, one after the other from an offset on: each with its payload and 5
unfoldable pub sections_from : ℕ → List Part → List Section
sections_from at [] = []
sections_from at (part ∷ more) =
    listed_as part.number at (part.length + 5) ∷ sections_from (at + (part.length + 5)) more

-- those of its message: 0 before them and 8 after
abbrev pub message_sections : List Part → List Section
message_sections parts =
    listed_as 0 0 16 ∷ (sections_from 16 parts ++ (listed_as 8 (16 + sections_size parts) 4 ∷ []))

-- the plan's numbers
abbrev pub numbers_of : List Part → List ℕ
numbers_of parts = map (λ part. part.number) parts

-- the plan's part of the store
abbrev pub part_of : List ℕ → Part → List ℕ
part_of store part = take part.length (drop part.offset store)

-- a file's octets behind a section's header
abbrev pub payload_in : List ℕ → Section → List ℕ
payload_in file section = take (section.length - 5) (drop (section.offset.0 + 5) file)

-- a submessage ends with its section 7: so many lines
unfoldable pub lines_in : List Part → ℕ
lines_in [] = 0
lines_in (part ∷ more) = pick (eqb part.number 7) 1 0 + lines_in more

-- a walk that ends clean after one message, with these sections and so many lines
pub record WalksClean (told : Told) (sections : List Section) (lines : ℕ) : Type 0 where
  pub all_sections : told.sections ≡ sections
  pub all_lines : length told.lines ≡ lines
  pub one_message : told.messages ≡ 1
  pub no_refusal : told.outcome ≡ Ok tt

-- a file is the message of a plan
pub record ReadsBack (discipline : ℕ) (parts : List Part) (store file : List ℕ) (total : ℕ)
    : Type 0 where
  -- it has the total length
  pub long : length file ≡ total
  -- its section 0 says the plan's discipline and that length
  pub decoded : indicator_of (take 16 file)
      ≡ Some (record { discipline = discipline; total = total })
  -- its listing is the plan's sections, at their offsets and with their lengths, and then the input
  -- is over
  pub listed : listing file ≡ record { sections = message_sections parts; ending = over }
  -- their numbers are the plan's, with 0 before and 8 after
  pub numbers : map (λ section. section.number) (message_sections parts)
      ≡ 0 ∷ (numbers_of parts ++ (8 ∷ []))
  -- each payload is the plan's part of the store
  pub payloads : map (payload_in file) (sections_from 16 parts) ≡ map (part_of store) parts
  -- it walks clean with any tables that hold its lines
  pub walks : (room : Room) → 2 + length parts ≤ room.rows → lines_in parts ≤ room.lines
      → WalksClean (walked room file) (message_sections parts) (lines_in parts)
