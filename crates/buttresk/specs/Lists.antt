-- An answer of the reader of a list: how many entries stand in the table, and the four numbers of
-- its end (02, Ticket 1).
use Rattle.lists.specs.End.{list_end}
use Rattle.lists.specs.declared.ListAnswer.{ListAnswer}
use Rattle.buttresk.specs.declared.listing.ReadAnswer.{ReadAnswer}

-- the entries, then the end
unfoldable pub read_answer_of : ListAnswer → ReadAnswer
read_answer_of answer =
    record {
      entries = answer.entries;
      outcome = (list_end answer.end).outcome;
      place = (list_end answer.end).place;
      offset = (list_end answer.end).offset;
      detail = (list_end answer.end).detail;
    }
