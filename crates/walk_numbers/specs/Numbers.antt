-- The walk with both tables lent as numbers, and its answer's seven numbers (01, "Order", "Refusal
-- numbers"). What a walk tells is the crate `index`'s, the section table that of the crate
-- `standing`; the counts are those of the crate `walk`.
use Rattle.std.specs.Prelude.{ℕ, ◌/◌, List, [], ◌∷◌, ◌++◌, length, Option, Some, None}
use Rattle.index.specs.declared.line.Line.{Line}
use Rattle.index.specs.Numbers.{end_of}
use Rattle.index.specs.Walk.{walked}
use Rattle.standing.specs.Tables.{room_of, rows_of, stored_over}
use Rattle.walk.specs.Tables.{answer_of}
use Rattle.walk.specs.declared.lines.Answer.{Answer}
use Rattle.walk_numbers.specs.declared.numbers.WalkAnswer.{WalkAnswer}
use Rattle.order.specs.declared.Place.{Place}

-- 1 or 0 for whether there is a place: of a section 2, or of the section 8 that closes the message
unfoldable pub is_there : Option Place → ℕ
is_there (Some place) = 1
is_there None = 0

-- the place; where there is none the number is 0 and says nothing
unfoldable pub place_or_0 : Option Place → ℕ
place_or_0 (Some place) = place.0
place_or_0 None = 0

-- a line is fifteen numbers: message, submessage, whether there is a section 2, whether the message
-- is closed, nine places, the message's octet offset and total length
unfoldable pub line_numbers : Line → List ℕ
line_numbers l =
    l.message
    ∷ l.submessage
    ∷ is_there l.local
    ∷ is_there l.end
    ∷ l.indicator.0
    ∷ l.identification.0
    ∷ place_or_0 l.local
    ∷ l.grid.0
    ∷ l.product.0
    ∷ l.representation.0
    ∷ l.bitmap.0
    ∷ l.values.0
    ∷ place_or_0 l.end
    ∷ l.span.offset.0
    ∷ l.span.total
    ∷ []

-- the numbers of all lines, in order
unfoldable pub lines_of : List Line → List ℕ
lines_of [] = []
lines_of (l ∷ more) = line_numbers l ++ lines_of more

-- an answer in numbers: section lines, submessage lines and messages closed, then outcome, place,
-- offset and detail
abbrev pub seven_of : Answer → WalkAnswer
seven_of a =
    let end = end_of a.outcome in
    record {
      sections = a.sections;
      submessages = a.submessages;
      messages = a.messages;
      outcome = end.outcome;
      place = end.place;
      offset = end.offset;
      detail = end.detail;
    }

-- the answer, and the whole content of both tables
pub record TabledNumbers : Type 0 where
  pub answer : WalkAnswer
  pub rows : List ℕ
  pub lines : List ℕ

-- the walk of a file with lent tables: room for a line is fifteen numbers, and a remainder is none
unfoldable pub walk_numbers : List ℕ → List ℕ → List ℕ → TabledNumbers
walk_numbers file rows lines =
    let told = walked (room_of (length rows) (length lines / 15)) file in
    record {
      answer = seven_of (answer_of told);
      rows = stored_over (rows_of told.sections) rows;
      lines = stored_over (lines_of told.lines) lines;
    }
