-- The lent tables and the answer (01, "Order": "The section table is rows of three numbers";
-- "Refusal numbers").
use Rattle.std.specs.Prelude.{ℕ, List, length}
use Rattle.index.specs.declared.line.Line.{Line}
use Rattle.index.specs.Walk.{Told, walked}
use Rattle.standing.specs.Tables.{room_of, rows_of, stored_over}
use Rattle.walk.specs.declared.lines.Answer.{Answer}

-- section lines, submessage lines and messages closed, and how the walk ended
abbrev pub answer_of : Told → Answer
answer_of told =
    record {
      sections = length told.sections;
      submessages = length told.lines;
      messages = told.messages;
      outcome = told.outcome;
    }

-- the answer, and the whole content of both tables
pub record Tabled : Type 0 where
  pub answer : Answer
  pub rows : List ℕ
  pub lines : List Line

-- the walk of a file with lent tables
unfoldable pub walk_of : List ℕ → List ℕ → List Line → Tabled
walk_of file rows lines =
    let told = walked (room_of (length rows) (length lines)) file in
    record {
      answer = answer_of told;
      rows = stored_over (rows_of told.sections) rows;
      lines = stored_over told.lines lines;
    }
