-- An entry's line, and the text of a list of entries (02, Ticket 1: "separated by colons, "none"
-- for any of the last five that is none, closed by a line feed"). A character is given by its code.
use Rattle.std.specs.Prelude.{ℕ, ◌-◌, List, [], ◌∷◌, ◌++◌, length, replicate, Option, Some, None}
use Rattle.entries.specs.Decimal.{decimal}
use Rattle.entries.specs.declared.Entry.{Entry}
use Rattle.entries.specs.declared.Spelled.{Spelled}
use Rattle.products.specs.declared.ForecastTime.{ForecastTime}

-- `:`, and what closes a line
abbrev pub colon : ℕ
colon = 58

abbrev pub line_feed : ℕ
line_feed = 10

-- `none`
abbrev pub none_text : List ℕ
none_text = 110 ∷ 111 ∷ 110 ∷ 101 ∷ []

-- one of the last five fields
unfoldable pub octet_text : Option ℕ → List ℕ
octet_text (Some n) = decimal n
octet_text None = none_text

-- time unit and time: both none or neither
unfoldable pub unit_text : Option ForecastTime → List ℕ
unit_text (Some t) = decimal t.unit
unit_text None = none_text

unfoldable pub time_text : Option ForecastTime → List ℕ
time_text (Some t) = decimal t.time
time_text None = none_text

-- message and submessage number, octet offset of section 0, discipline, category, parameter number,
-- time unit and time, first surface type
unfoldable pub nine_fields : Entry → List (List ℕ)
nine_fields e =
    decimal e.message
    ∷ decimal e.submessage
    ∷ decimal e.offset.0
    ∷ decimal e.discipline
    ∷ octet_text e.category
    ∷ octet_text e.number
    ∷ unit_text e.time
    ∷ time_text e.time
    ∷ octet_text e.surface
    ∷ []

-- with a colon between any two
abbrev pub joined : List (List ℕ) → List ℕ
joined [] = []
joined (field ∷ []) = field
joined (field ∷ next ∷ more) = field ++ (colon ∷ joined (next ∷ more))

-- the line of an entry
unfoldable pub entry_line : Entry → List ℕ
entry_line e = joined (nine_fields e) ++ (line_feed ∷ [])

-- the text of a list: each list has one
unfoldable pub text_of : List Entry → List ℕ
text_of [] = []
text_of (e ∷ more) = entry_line e ++ text_of more

-- no line is longer: three numbers of at most 20 digits, one of 3, one of 10, four fields of at
-- most 4 characters, eight colons and the line feed
abbrev pub most_line : ℕ
most_line = 98

-- a line at the end of so many octets, behind zeros that are no part of it
unfoldable pub spelled_of : Entry → Spelled
spelled_of e =
    record {
      octets = replicate (most_line - length (entry_line e)) 0 ++ entry_line e;
      start = most_line - length (entry_line e);
    }
