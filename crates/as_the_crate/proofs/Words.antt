-- What a walk tells, in the crate's words: the way by which the proofs go. A section that can't be read is an error or an overflow;
-- 1, 13 and 14 are not the crate's.
use Rattle.std.specs.Prelude.{Option, Some, None, Ok, Err}
use Prim.Native.Nat.{ℕ, ◌<◌}
use mathlib.Core.List.{List, [], ◌∷◌}
use lib.ListN.{get_or}
use Rattle.order.specs.declared.Place.{Place}
use Rattle.index.specs.declared.line.Line.{Line}
use Rattle.framing.specs.declared.read.Offset.{Offset}
use Rattle.framing.specs.declared.read.Section.{Section}
use Rattle.framing.specs.declared.read.Fault.{Fault}
use Rattle.framing.specs.declared.read.Fault.TheVariants as fault
use Rattle.index.specs.declared.refusal.Refusal.{Refusal}
use Rattle.index.specs.declared.refusal.Refusal.TheVariants as refusal
use Rattle.index.specs.Walk.{Told}
use Rattle.as_the_crate.specs.Std.{ParseError, SectionInfo, info}
use Rattle.as_the_crate.specs.Std.{ReadError, GRIBVersionMismatch, UnknownSectionNumber, EndSectionMismatch, SectionSizeTooSmall}
use Rattle.as_the_crate.specs.Std.{UnexpectedEndOfData, InvalidSectionOrder, NoGridDefinition}
use Rattle.as_the_crate.specs.Parser.{Keeping, Submessage, Collected, Finish, clean, fails, overflow, unended}
use Rattle.index.specs.Outcome.{Outcome}

-- a list of octets
abbrev pub Octets : List ℕ → Type 0
Octets file = (i : ℕ) → get_or file i 0 < 256

-- a section
abbrev pub info_of : Section → SectionInfo
info_of s = info s.number s.offset.0 s.length

abbrev pub infos_of : List Section → List SectionInfo
infos_of [] = []
infos_of (s ∷ more) = info_of s ∷ infos_of more

-- a line, by what a stream keeps of the section at a place
abbrev pub kept_local : {K : Type 0} → (ℕ → K) → Option Place → Option K
kept_local look (Some place) = Some (look place.0)
kept_local look None = None

-- behind a line whose message goes on the crate has a section 8 of its own making
abbrev pub kept_end : {K : Type 0} → Keeping K → (ℕ → K) → Option Place → K
kept_end κ look None = κ.keep 0 (info 8 0 4)
kept_end κ look (Some place) = look place.0

abbrev pub submessage_of : {K : Type 0} → Keeping K → (ℕ → K) → Line → Submessage K
submessage_of κ look l =
    record {
      message = l.message;
      submessage = l.submessage;
      sect0 = look l.indicator.0;
      sect1 = look l.identification.0;
      sect2 = kept_local look l.local;
      sect3 = look l.grid.0;
      sect4 = look l.product.0;
      sect5 = look l.representation.0;
      sect6 = look l.bitmap.0;
      sect7 = look l.values.0;
      sect8 = kept_end κ look l.end;
    }

abbrev pub submessages_of : {K : Type 0} → Keeping K → (ℕ → K) → List Line → List (Submessage K)
submessages_of κ look [] = []
submessages_of κ look (l ∷ more) = submessage_of κ look l ∷ submessages_of κ look more

-- a section begun at an offset can't be read: 4, 6 and 9 are differences that leave usize in the crate
abbrev pub unread_at : ParseError → Offset → Finish
unread_at error offset = fails error (record { began = offset.0; number = 0 })

abbrev pub failure_of : Fault → Offset → Finish
failure_of (fault.Cut missing) offset = unread_at ReadError offset
failure_of (fault.OtherEdition edition) offset = unread_at (GRIBVersionMismatch edition) offset
failure_of fault.TotalUnder16 offset = overflow
failure_of fault.NotEndMark offset = unread_at EndSectionMismatch offset
failure_of (fault.LengthUnder5 len) offset = overflow
failure_of (fault.UnknownNumber number) offset = unread_at (UnknownSectionNumber number) offset
failure_of (fault.PayloadUnderLeast size) offset = unread_at (SectionSizeTooSmall size) offset
failure_of (fault.LongerThanRest len) offset = overflow

-- a refusal at a place and an offset
abbrev pub refusal_of : Refusal → Place → Offset → Finish
refusal_of refusal.FileTooLong place offset = unended
refusal_of (refusal.Unreadable fault) place offset = failure_of fault offset
refusal_of refusal.InputOver place offset = fails (UnexpectedEndOfData place.0) (record { began = 0; number = 0 })
refusal_of (refusal.Misplaced number) place offset = fails (InvalidSectionOrder place.0) (record { began = offset.0; number = number })
refusal_of (refusal.NoGrid number) place offset = fails (NoGridDefinition place.0) (record { began = offset.0; number = number })
refusal_of refusal.SectionTableFull place offset = unended
refusal_of refusal.SubmessageTableFull place offset = unended

-- an outcome
abbrev pub word_of : Outcome → Finish
word_of (Ok tt) = clean
word_of (Err stop) = refusal_of stop.why stop.place stop.offset

-- what a walk tells
abbrev pub in_words : {K : Type 0} → Keeping K → (ℕ → K) → Told → Collected K
in_words κ look t =
    record { sections = infos_of t.sections; submessages = submessages_of κ look t.lines; end = word_of t.outcome }
