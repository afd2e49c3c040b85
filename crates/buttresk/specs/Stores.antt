-- An answer of the public copy, of the writer or of the inventory: outcome, place, offset, detail
-- and the octets written (01, "Refusal numbers").
use Rattle.index.specs.declared.numbers.StoreEnd.{StoreEnd}
use Rattle.buttresk.specs.declared.storing.StoreAnswer.{StoreAnswer}

-- the four numbers of an end, and the octets written
unfoldable pub five_of : StoreEnd → StoreAnswer
five_of answer =
    record {
      outcome = answer.end.outcome;
      place = answer.end.place;
      offset = answer.end.offset;
      detail = answer.end.detail;
      written = answer.written;
    }
