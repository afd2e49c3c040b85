-- What the crate grib 0.20.2 tells of a file, and the same in this library's words: a section, a
-- submessage's line, how many messages are closed, an outcome.
use Rattle.std.specs.Prelude.{ℕ, ◌+◌, ◌*◌, List, [], ◌∷◌, map, eqb, length, get_or, Option, Some}
use Rattle.std.specs.Prelude.{None, Ok, Err}
use Rattle.octets.specs.Words.{pick}
use Rattle.octets.specs.BigEndian.{be_at}
use Rattle.framing.specs.declared.read.Section.{Section}
use Rattle.framing.specs.declared.read.Fault.{Fault}
use Rattle.framing.specs.declared.read.Fault.TheVariants as fault
use Rattle.index.specs.Lines.{place, span}
use Rattle.index.specs.declared.line.Span.{Span}
use Rattle.index.specs.declared.line.Line.{Line}
use Rattle.index.specs.declared.refusal.Refusal.{Refusal}
use Rattle.index.specs.declared.refusal.Refusal.TheVariants as refusal
use Rattle.index.specs.Walk.{Told}
use Rattle.as_the_crate.specs.Std.{
  ParseError,
  ReadError,
  GRIBVersionMismatch,
  UnknownSectionNumber,
  EndSectionMismatch,
  SectionSizeTooSmall,
  UnexpectedEndOfData,
  InvalidSectionOrder,
  NoGridDefinition,
  Dropped,
  SectionInfo,
  info,
}
use Rattle.as_the_crate.specs.Reader.{Grib2SectionStream-new, Grib2SectionStream-next}
use Rattle.as_the_crate.specs.Parser.{
  Keeping,
  positions,
  infos,
  Submessage,
  SubmessageStream-new,
  fresh_locals,
  Finish,
  clean,
  fails,
  overflow,
  unended,
  Collected,
  collected,
}
use Rattle.order.specs.declared.Place.{Place}
use Rattle.index.specs.Outcome.{Outcome, refused_there}

-- one of the crate's two streams of submessages over its Grib2SectionStream, on a file: two turns
-- a section, and no file has more sections than octets
unfoldable pub streamed : {K : Type 0} → Keeping K → List ℕ → Collected K
streamed κ file =
    collected κ (Grib2SectionStream-next file) (2 * (length file + 1) + 2)
    (SubmessageStream-new κ Grib2SectionStream-new) (fresh_locals κ)

-- the crate on a file, with places: Grib2SubmessageIndexStream
abbrev pub the_rust : List ℕ → Collected ℕ
the_rust file = streamed positions file

-- and with the sections themselves: Grib2SubmessageStream
abbrev pub the_public_rust : List ℕ → Collected SectionInfo
the_public_rust file = streamed infos file

-- a section
abbrev pub section_in : SectionInfo → Section
section_in s = record { number = s.num; offset = record { 0 = s.offset }; length = s.size }

-- whether there is a section 2, and where
abbrev pub local_in : Option ℕ → Option Place
local_in (Some pos) = Some (place pos)
local_in None = None

-- what stands behind it: place 0 in the ninth position is the crate's word for a message that goes on
abbrev pub end_in : ℕ → Option Place
end_in pos = pick (eqb pos 0) None (Some (place pos))

-- where its message stands: the offset of this section 0, and the total_length that the crate's
-- Indicator::from_slice reads there
abbrev pub span_in : List ℕ → SectionInfo → Span
span_in file sect0 = span (record { 0 = sect0.offset }) (be_at file (sect0.offset + 8) 8)

-- a submessage's line, where these sections passed
abbrev pub line_in : List ℕ → List SectionInfo → Submessage ℕ → Line
line_in file passed s =
    record {
      message = s.message;
      submessage = s.submessage;
      indicator = place s.sect0;
      identification = place s.sect1;
      local = local_in s.sect2;
      grid = place s.sect3;
      product = place s.sect4;
      representation = place s.sect5;
      bitmap = place s.sect6;
      values = place s.sect7;
      end = end_in s.sect8;
      span = span_in file (get_or passed s.sect0 (info 0 0 0));
    }

-- a message is closed at each section 8
abbrev pub closed_in : List SectionInfo → ℕ
closed_in [] = 0
closed_in (s ∷ more) = pick (eqb s.num 8) 1 0 + closed_in more

-- why, where (place) and at which offset
abbrev pub refused_in : Refusal → ℕ → ℕ → Outcome
refused_in why at offset = Err (refused_there why (place at) (record { 0 = offset }))

-- a section that can't be read: the crate tells neither place nor offset. The place is the count of
-- sections that passed, the offset is where it began
abbrev pub unread_in : List SectionInfo → Dropped → Fault → Outcome
unread_in passed dropped fault =
    refused_in (refusal.Unreadable fault) (length passed) dropped.began

-- an error. How many octets a read was short of the crate does not tell: `missing` is handed in. Of
-- 10 it tells the place, which is that of the last section that passed; of 11 and 12 too, where the
-- offset and the number are those of the section in hand
abbrev pub error_in : ℕ → List SectionInfo → ParseError → Dropped → Outcome
error_in missing passed ReadError dropped = unread_in passed dropped (fault.Cut missing)
error_in missing passed (GRIBVersionMismatch edition) dropped =
    unread_in passed dropped (fault.OtherEdition edition)
error_in missing passed EndSectionMismatch dropped = unread_in passed dropped fault.NotEndMark
error_in missing passed (UnknownSectionNumber number) dropped =
    unread_in passed dropped (fault.UnknownNumber number)
error_in missing passed (SectionSizeTooSmall size) dropped =
    unread_in passed dropped (fault.PayloadUnderLeast size)
error_in missing passed (UnexpectedEndOfData pos) dropped =
    refused_in refusal.InputOver pos (get_or passed pos (info 0 0 0)).offset
error_in missing passed (InvalidSectionOrder pos) dropped =
    refused_in (refusal.Misplaced dropped.number) pos dropped.began
error_in missing passed (NoGridDefinition pos) dropped =
    refused_in (refusal.NoGrid dropped.number) pos dropped.began

-- an end. An overflow, and no end, are no outcome: in their stead stands 1, which is told of no
-- file of at most 2^40 octets
abbrev pub outcome_in : ℕ → List SectionInfo → Finish → Outcome
outcome_in missing passed clean = Ok tt
outcome_in missing passed (fails e dropped) = error_in missing passed e dropped
outcome_in missing passed overflow = refused_in refusal.FileTooLong 0 0
outcome_in missing passed unended = refused_in refusal.FileTooLong 0 0

-- all that is collected
abbrev pub told_in : ℕ → List ℕ → Collected ℕ → Told
told_in missing file rust =
    record {
      sections = map (λ (s : SectionInfo). section_in s) rust.sections;
      lines = map (λ (s : Submessage ℕ). line_in file rust.sections s) rust.submessages;
      messages = closed_in rust.sections;
      outcome = outcome_in missing rust.sections rust.end;
    }

-- what the crate tells of a file, with this count where a read was short
abbrev pub told_by_the_rust : ℕ → List ℕ → Told
told_by_the_rust missing file = told_in missing file (the_rust file)
