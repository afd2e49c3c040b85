-- What the reader of a list stores and answers (02, Ticket 1: "line by line, 21 line not in this
-- form, .. then 14 lent table full; the lines read before stand").
use Rattle.std.specs.Prelude.{ℕ, ◌+◌, ◌/◌, List, [], ◌∷◌, ◌++◌, eqb, leb, length, drop, Option, Some, None, Result, Ok, Err, ⊤}
use Rattle.octets.specs.Words.{pick}
use Rattle.entries.specs.Entries.{line_feed}
use Rattle.entries.specs.declared.Entry.{Entry}
use Rattle.lists.specs.Line.{LineSaid, says, says_nothing, entry_of}
use Rattle.lists.specs.declared.ListAnswer.{ListAnswer}
use Rattle.products.specs.declared.ForecastTime.{ForecastTime}
use Rattle.lists.specs.declared.ListRefusal.TheVariants.{NotInForm, TableFull}
use Rattle.lists.specs.declared.ListRefusal.{ListRefusal}

-- a text's lines: those that a line feed closes, and what is left behind the last of them
pub record TextLines : Type 0 where
  pub closed : List (List ℕ)
  pub left : List ℕ

-- an octet before them: of the first line, or of what is left where there is none
abbrev pub octet_before : ℕ → List (List ℕ) → List ℕ → TextLines
octet_before octet [] left = record { closed = []; left = octet ∷ left }
octet_before octet (first ∷ more) left = record { closed = (octet ∷ first) ∷ more; left = left }

unfoldable pub text_lines : List ℕ → TextLines
text_lines [] = record { closed = []; left = [] }
text_lines (octet ∷ more) =
    let later = text_lines more in
    pick (eqb octet line_feed) (record { closed = [] ∷ later.closed; left = later.left })
    (octet_before octet later.closed later.left)

-- what is told of a text: the entries read, and how the reading ends
pub record ListTold : Type 0 where
  pub entries : List Entry
  pub end : Result ⊤ ListRefusal

abbrev pub list_ends : Result ⊤ ListRefusal → ListTold
list_ends end = record { entries = []; end = end }

-- an entry is told, and what is told after it
abbrev pub entry_then : Entry → ListTold → ListTold
entry_then e later = record { entries = e ∷ later.entries; end = later.end }

-- a line, behind so many that were read: 21 with its number from 1, then 14
abbrev pub line_read : ℕ → ℕ → LineSaid → ListTold → ListTold
line_read room read says_nothing later = list_ends (Err (NotInForm (read + 1)))
line_read room read (says e) later =
    pick (leb room read) (list_ends (Err TableFull)) (entry_then e later)

-- line by line, with room for so many entries; what no line feed closes is a line not in this form
unfoldable pub lines_read : ℕ → ℕ → List (List ℕ) → List ℕ → ListTold
lines_read room read [] left =
    list_ends (pick (eqb (length left) 0) (Ok tt) (Err (NotInForm (read + 1))))
lines_read room read (line ∷ more) left =
    line_read room read (entry_of line) (lines_read room (read + 1) more left)

unfoldable pub list_told : ℕ → List ℕ → ListTold
list_told room text = lines_read room 0 (text_lines text).closed (text_lines text).left

-- 1 and its value, or 0 and a number that says nothing
unfoldable pub octet_numbers : Option ℕ → List ℕ
octet_numbers (Some n) = 1 ∷ n ∷ []
octet_numbers None = 0 ∷ 0 ∷ []

-- 1, unit and time, or 0 and two numbers that say nothing
unfoldable pub time_numbers : Option ForecastTime → List ℕ
time_numbers (Some t) = 1 ∷ t.unit ∷ t.time ∷ []
time_numbers None = 0 ∷ 0 ∷ 0 ∷ []

-- an entry in the table: thirteen numbers, which say of each field that can be none whether there
-- is one
unfoldable pub entry_numbers : Entry → List ℕ
entry_numbers e =
    (e.message ∷ e.submessage ∷ e.offset.0 ∷ e.discipline ∷ [])
    ++ (octet_numbers e.category
    ++ (octet_numbers e.number
    ++ (time_numbers e.time ++ octet_numbers e.surface)))

unfoldable pub list_numbers : List Entry → List ℕ
list_numbers [] = []
list_numbers (e ∷ more) = entry_numbers e ++ list_numbers more

-- an answer, and the whole table
pub record ListStored : Type 0 where
  pub answer : ListAnswer
  pub table : List ℕ

-- a lent table has room for an entry in each thirteen of its numbers; a remainder is no room
unfoldable pub read_of : List ℕ → List ℕ → ListStored
read_of text table =
    let told = list_told (length table / 13) text in
    let numbers = list_numbers told.entries in
    record {
      answer = record { entries = length told.entries; end = told.end };
      table = numbers ++ drop (length numbers) table;
    }
