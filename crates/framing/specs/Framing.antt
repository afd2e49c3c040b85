-- One read: what stands at a place of a file, with so many octets of its message to come
-- (01, "Framing", and the order of refusals 2 to 9 in one section). It looks at no octet of a
-- payload.
use Rattle.std.specs.Prelude.{ℕ, ◌+◌, ◌-◌, Bool, not, ◌&&◌, ◌||◌, List, ltb, leb, eqb, length, get_or, Option, Some, None}
use Rattle.octets.specs.Words.{pick}
use Rattle.octets.specs.BigEndian.{be_at}
use Rattle.sections.specs.Kinds.{
  header_size,
  indicator_size,
  end_size,
  least_bit_map,
  grib_edition,
  end_mark,
  indicator,
  bit_map,
  data_section,
  end_section,
  least_payload_of,
}
use Rattle.framing.specs.Search.{says_mark, next_start}
use Rattle.framing.specs.declared.read.Fault.{Fault}
use Rattle.framing.specs.declared.read.Fault.TheVariants.{
  Cut,
  OtherEdition,
  TotalUnder16,
  NotEndMark,
  LengthUnder5,
  UnknownNumber,
  PayloadUnderLeast,
  LongerThanRest,
}
use Rattle.framing.specs.declared.read.How.{How}
use Rattle.framing.specs.declared.read.How.TheVariants as how
use Rattle.framing.specs.declared.read.Framed.{Framed}
use Rattle.framing.specs.Read.{Read}
use Rattle.framing.specs.Read.{Section, Over, Refused}

-- a section, and where the next read is made: at its end, with so many octets of the message left
abbrev pub section_at : ℕ → ℕ → ℕ → ℕ → Read
section_at number at len rest =
    Section
    (record { number = number; offset = record { 0 = at }; length = len })
    (record { at = record { 0 = at + len }; rest = rest })

-- a refusal, of the section that would stand at `at`
abbrev pub refused_at : Fault → ℕ → Read
refused_at fault at = Refused fault (record { 0 = at })

-- section 0, from its G on: 3, then 4
unfoldable pub indicator_at : List ℕ → ℕ → Read
indicator_at file g =
    let edition = get_or file (g + 7) 0 in
    let total = be_at file (g + 8) 8 in
    pick (not (eqb edition grib_edition)) (refused_at (OtherEdition edition) g)
    (pick (ltb total indicator_size) (refused_at TotalUnder16 g)
    (section_at indicator.number g indicator_size (total - indicator_size)))

-- section 8, with an octet left at least: 2 (4 less what is left are missing), then 5
unfoldable pub end_at : List ℕ → ℕ → Read
end_at file at =
    let left = length file - at in
    pick (ltb left end_size) (refused_at (Cut (end_size - left)) at)
    (pick (says_mark file at end_mark) (section_at end_section.number at end_size 0)
    (refused_at NotEndMark at))

-- the file ends inside the payload: section 7 is skipped unread, and of a section 6 the indicator
-- is read whatever its length
unfoldable pub is_cut : ℕ → ℕ → ℕ → Bool
is_cut number len left =
    not (eqb number data_section.number)
    && (ltb left len || (eqb number bit_map.number && ltb left (header_size + least_bit_map)))

-- the octets missing of a payload that is cut: its stated end less the file's length, both counted
-- from the section's start (02, Ticket 2); 1, the indicator, of a section 6 of length 5
unfoldable pub missing : ℕ → ℕ → ℕ
missing len left = pick (ltb left len) (len - left) least_bit_map

-- a section behind its header, of a kind with this least payload: 7, 2 (payload), 8, 9
unfoldable pub payload_at : Option ℕ → ℕ → ℕ → ℕ → ℕ → ℕ → Read
payload_at None at number len left rest = refused_at (UnknownNumber number) at
payload_at (Some least) at number len left rest =
    pick (is_cut number len left) (refused_at (Cut (missing len left)) at)
    (pick (ltb (len - header_size) least) (refused_at (PayloadUnderLeast (len - header_size)) at)
    (pick (ltb rest len) (refused_at (LongerThanRest len) at)
    (section_at number at len (rest - len))))

-- a section with a header, with an octet left at least: 2 (5 less what is left for it are missing),
-- 6, then by its kind
unfoldable pub header_at : List ℕ → ℕ → ℕ → Read
header_at file at rest =
    let left = length file - at in
    let len = be_at file at 4 in
    let number = get_or file (at + 4) 0 in
    pick (ltb left header_size) (refused_at (Cut (header_size - left)) at)
    (pick (ltb len header_size) (refused_at (LengthUnder5 len) at)
    (payload_at (least_payload_of number) at number len left rest))

-- between messages: section 0 at the next start, or the input is over
unfoldable pub message_at : List ℕ → Option ℕ → Read
message_at file (Some g) = indicator_at file g
message_at file None = Over

-- rest 0: search; no octet left: over; rest just a section 8: that; any other rest: a header
unfoldable pub read_at : List ℕ → ℕ → ℕ → Read
read_at file at rest =
    pick (eqb rest 0) (message_at file (next_start file at))
    (pick (leb (length file) at) Over
    (pick (eqb rest end_size) (end_at file at)
    (header_at file at rest)))

-- a read, with each field set: where there is no section, its fields say nothing, but for the
-- offset of one that is refused
abbrev pub without : How → ℕ → Framed
without how at =
    record {
      how = how;
      section = record { number = 0; offset = record { 0 = at }; length = 0 };
      next = record { at = record { 0 = 0 }; rest = 0 };
    }

unfoldable pub framed : Read → Framed
framed (Section s next) = record { how = how.Whole; section = s; next = next }
framed Over = without how.Over 0
framed (Refused fault offset) = without (how.Refused fault) offset.0
