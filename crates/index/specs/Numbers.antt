-- Document 01's number and detail of each refusal, the outcome, place, offset and detail of each
-- end, and the octets written (01, "Refusal numbers").
use Rattle.std.specs.Prelude.{ℕ, Ok, Err}
use Rattle.framing.specs.declared.read.Fault.{Fault}
use Rattle.framing.specs.declared.read.Fault.TheVariants as fault
use Rattle.index.specs.declared.numbers.End.{End}
use Rattle.index.specs.declared.numbers.StoreEnd.{StoreEnd}
use Rattle.index.specs.declared.refusal.Refusal.{Refusal}
use Rattle.index.specs.declared.refusal.Refusal.TheVariants as refusal
use Rattle.index.specs.Outcome.{Outcome}

-- 2 to 9
unfoldable pub fault_number : Fault → ℕ
fault_number (fault.Cut missing) = 2
fault_number (fault.OtherEdition edition) = 3
fault_number fault.TotalUnder16 = 4
fault_number fault.NotEndMark = 5
fault_number (fault.LengthUnder5 len) = 6
fault_number (fault.UnknownNumber number) = 7
fault_number (fault.PayloadUnderLeast size) = 8
fault_number (fault.LongerThanRest len) = 9

unfoldable pub fault_detail : Fault → ℕ
fault_detail (fault.Cut missing) = missing
fault_detail (fault.OtherEdition edition) = edition
fault_detail fault.TotalUnder16 = 0
fault_detail fault.NotEndMark = 0
fault_detail (fault.LengthUnder5 len) = len
fault_detail (fault.UnknownNumber number) = number
fault_detail (fault.PayloadUnderLeast size) = size
fault_detail (fault.LongerThanRest len) = len

-- 1 to 14
unfoldable pub refusal_number : Refusal → ℕ
refusal_number refusal.FileTooLong = 1
refusal_number (refusal.Unreadable fault) = fault_number fault
refusal_number refusal.InputOver = 10
refusal_number (refusal.Misplaced number) = 11
refusal_number (refusal.NoGrid number) = 12
refusal_number refusal.SectionTableFull = 13
refusal_number refusal.SubmessageTableFull = 14

unfoldable pub refusal_detail : Refusal → ℕ
refusal_detail refusal.FileTooLong = 0
refusal_detail (refusal.Unreadable fault) = fault_detail fault
refusal_detail refusal.InputOver = 0
refusal_detail (refusal.Misplaced number) = number
refusal_detail (refusal.NoGrid number) = number
refusal_detail refusal.SectionTableFull = 0
refusal_detail refusal.SubmessageTableFull = 0

-- at 0 the last three are 0
unfoldable pub end_of : Outcome → End
end_of (Ok tt) = record { outcome = 0; place = 0; offset = 0; detail = 0 }
end_of (Err stop) =
    record {
      outcome = refusal_number stop.why;
      place = stop.place.0;
      offset = stop.offset.0;
      detail = refusal_detail stop.why;
    }

-- for the copy, the writer and the inventory an answer is these four and the octets written
unfoldable pub stored : ℕ → StoreEnd
stored octets = record { end = end_of (Ok tt); written = octets }

-- for 1 and 15 to 20 place and offset are zeros; a refusal writes nothing
unfoldable pub unplaced : ℕ → ℕ → StoreEnd
unplaced outcome detail =
    record {
      end = record { outcome = outcome; place = 0; offset = 0; detail = detail };
      written = 0;
    }
