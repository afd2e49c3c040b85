-- The table of offsets as the code has it, row by row (02, Ticket 4: "one table of 1,102 rows,
-- template 0 to 1101, with three columns: generating process, time, surfaces, and a mark for "no
-- index""), and that it says what 01's ranges say. The proof of `offsets_at` holds the code's table
-- to these rows.
use Rattle.std.specs.Prelude.{ℕ, ◌+◌, ◌*◌, ◌/◌, ◌%◌, ◌<◌, ◌≡◌, List, [], ◌∷◌, eqb, length, get_or, Option, Some, None}
use Rattle.octets.specs.Words.{pick}
use Rattle.products.specs.Readings.{as_crate, by_reading}
use Rattle.products.specs.declared.templates.TimeOctets.TheVariants.{Four}
use Rattle.products.specs.declared.templates.TemplateReading.{TemplateReading}
use Rattle.products.specs.declared.templates.Offsets.{Offsets}

-- the mark
abbrev pub no : ℕ
no = 255

-- a row: three columns of one octet
abbrev pub row : ℕ → ℕ → ℕ → ℕ
row process time surfaces = process + time * 256 + surfaces * 65536

-- a row without any index
abbrev pub none : ℕ
none = row no no no

-- what a column says: an index, or none where the mark stands
unfoldable pub column : ℕ → Option ℕ
column octet = pick (eqb octet no) None (Some octet)

-- what a row says: a template as the crate has it, with a time of four octets
unfoldable pub columns : ℕ → Offsets
columns r =
    record {
      process = column (r % 256);
      time = column (r / 256 % 256);
      width = Four;
      surfaces = column (r / 65536);
    }

-- where a template holds what by lent rows: what a reading makes of its row, and behind the last of
-- a row without any index
unfoldable pub offsets_by : List ℕ → TemplateReading → ℕ → Offsets
offsets_by lent reading template = by_reading reading template (columns (get_or lent template none))

-- the rows of the templates 0 to 1101
unfoldable pub rows : List ℕ
rows =
    -- from 0 on
    row 2 8 13 ∷ row 2 8 13 ∷ row 2 8 13 ∷ row 2 8 13 ∷ row 2 8 13
    ∷ row 2 8 13 ∷ row 2 8 13 ∷ row 2 8 13 ∷ row 2 8 13 ∷ row 2 8 13
    ∷ row 2 8 13 ∷ row 2 8 13 ∷ row 2 8 13 ∷ row 2 8 13 ∷ row 2 8 13
    ∷ row 2 8 13 ∷ row 2 no no ∷ row 2 no no ∷ row 2 no no ∷ row 2 no no
    ∷ row 2 no no ∷ row 2 no no ∷ row 2 no no ∷ row 2 no no ∷ row 2 no no
    ∷ row 2 no no ∷ row 2 no no ∷ row 2 no no ∷ row 2 no no ∷ row 2 no no
    ∷ row 2 no no ∷ row 2 no no ∷ row 2 8 no ∷ row 2 8 no ∷ row 2 8 no
    ∷ row 2 no no ∷ row 2 no no ∷ row 2 no no ∷ row 2 no no ∷ row 2 no no
    ∷ row 4 10 15 ∷ row 4 10 15 ∷ row 4 10 15 ∷ row 4 10 15 ∷ row 15 21 24
    ∷ row 15 21 26 ∷ row 15 21 26 ∷ row 2 21 26 ∷ row 26 32 37 ∷ row 26 32 37
    ∷ none ∷ row 2 8 13 ∷ none ∷ none ∷ none
    ∷ row 8 14 19 ∷ row 8 14 19 ∷ none ∷ none ∷ row 8 14 19
    ∷ row 2 8 13 ∷ row 2 8 13 ∷ row 8 14 19 ∷ row 8 14 19 ∷ none
    ∷ none ∷ none ∷ none ∷ none ∷ none
    ∷ row 7 13 18 ∷ row 7 13 18 ∷ row 7 13 18 ∷ row 7 13 18 ∷ none
    ∷ none ∷ row 5 11 16 ∷ row 5 11 16 ∷ row 5 11 16 ∷ row 5 11 16
    ∷ row 27 33 38 ∷ row 27 33 38 ∷ row 16 22 27 ∷ row 2 22 27 ∷ row 16 22 27
    ∷ row 15 21 26 ∷ row 2 8 13 ∷ row 2 8 13 ∷ row 2 26 5 ∷ row 2 no no
    ∷ row 2 no no ∷ row 2 8 13 ∷ none ∷ none ∷ none
    ∷ none ∷ none ∷ none ∷ none ∷ none
    -- from 100 on
    ∷ none ∷ none ∷ none ∷ none ∷ none ∷ none ∷ none ∷ none ∷ none ∷ none
    ∷ none ∷ none ∷ none ∷ none ∷ none ∷ none ∷ none ∷ none ∷ none ∷ none
    ∷ none ∷ none ∷ none ∷ none ∷ none ∷ none ∷ none ∷ none ∷ none ∷ none
    ∷ none ∷ none ∷ none ∷ none ∷ none ∷ none ∷ none ∷ none ∷ none ∷ none
    ∷ none ∷ none ∷ none ∷ none ∷ none ∷ none ∷ none ∷ none ∷ none ∷ none
    ∷ none ∷ none ∷ none ∷ none ∷ none ∷ none ∷ none ∷ none ∷ none ∷ none
    ∷ none ∷ none ∷ none ∷ none ∷ none ∷ none ∷ none ∷ none ∷ none ∷ none
    ∷ none ∷ none ∷ none ∷ none ∷ none ∷ none ∷ none ∷ none ∷ none ∷ none
    ∷ none ∷ none ∷ none ∷ none ∷ none ∷ none ∷ none ∷ none ∷ none ∷ none
    ∷ none ∷ none ∷ none ∷ none ∷ none ∷ none ∷ none ∷ none ∷ none ∷ none
    -- from 200 on
    ∷ none ∷ none ∷ none ∷ none ∷ none ∷ none ∷ none ∷ none ∷ none ∷ none
    ∷ none ∷ none ∷ none ∷ none ∷ none ∷ none ∷ none ∷ none ∷ none ∷ none
    ∷ none ∷ none ∷ none ∷ none ∷ none ∷ none ∷ none ∷ none ∷ none ∷ none
    ∷ none ∷ none ∷ none ∷ none ∷ none ∷ none ∷ none ∷ none ∷ none ∷ none
    ∷ none ∷ none ∷ none ∷ none ∷ none ∷ none ∷ none ∷ none ∷ none ∷ none
    ∷ none ∷ none ∷ none ∷ none ∷ row 2 no no
    ∷ none ∷ none ∷ none ∷ none ∷ none
    ∷ none ∷ none ∷ none ∷ none ∷ none ∷ none ∷ none ∷ none ∷ none ∷ none
    ∷ none ∷ none ∷ none ∷ none ∷ none ∷ none ∷ none ∷ none ∷ none ∷ none
    ∷ none ∷ none ∷ none ∷ none ∷ none ∷ none ∷ none ∷ none ∷ none ∷ none
    ∷ none ∷ none ∷ none ∷ none ∷ none ∷ none ∷ none ∷ none ∷ none ∷ none
    -- from 300 on
    ∷ none ∷ none ∷ none ∷ none ∷ none ∷ none ∷ none ∷ none ∷ none ∷ none
    ∷ none ∷ none ∷ none ∷ none ∷ none ∷ none ∷ none ∷ none ∷ none ∷ none
    ∷ none ∷ none ∷ none ∷ none ∷ none ∷ none ∷ none ∷ none ∷ none ∷ none
    ∷ none ∷ none ∷ none ∷ none ∷ none ∷ none ∷ none ∷ none ∷ none ∷ none
    ∷ none ∷ none ∷ none ∷ none ∷ none ∷ none ∷ none ∷ none ∷ none ∷ none
    ∷ none ∷ none ∷ none ∷ none ∷ none ∷ none ∷ none ∷ none ∷ none ∷ none
    ∷ none ∷ none ∷ none ∷ none ∷ none ∷ none ∷ none ∷ none ∷ none ∷ none
    ∷ none ∷ none ∷ none ∷ none ∷ none ∷ none ∷ none ∷ none ∷ none ∷ none
    ∷ none ∷ none ∷ none ∷ none ∷ none ∷ none ∷ none ∷ none ∷ none ∷ none
    ∷ none ∷ none ∷ none ∷ none ∷ none ∷ none ∷ none ∷ none ∷ none ∷ none
    -- from 400 on
    ∷ none ∷ none ∷ none ∷ none ∷ none ∷ none ∷ none ∷ none ∷ none ∷ none
    ∷ none ∷ none ∷ none ∷ none ∷ none ∷ none ∷ none ∷ none ∷ none ∷ none
    ∷ none ∷ none ∷ none ∷ none ∷ none ∷ none ∷ none ∷ none ∷ none ∷ none
    ∷ none ∷ none ∷ none ∷ none ∷ none ∷ none ∷ none ∷ none ∷ none ∷ none
    ∷ none ∷ none ∷ none ∷ none ∷ none ∷ none ∷ none ∷ none ∷ none ∷ none
    ∷ none ∷ none ∷ none ∷ none ∷ none ∷ none ∷ none ∷ none ∷ none ∷ none
    ∷ none ∷ none ∷ none ∷ none ∷ none ∷ none ∷ none ∷ none ∷ none ∷ none
    ∷ none ∷ none ∷ none ∷ none ∷ none ∷ none ∷ none ∷ none ∷ none ∷ none
    ∷ none ∷ none ∷ none ∷ none ∷ none ∷ none ∷ none ∷ none ∷ none ∷ none
    ∷ none ∷ none ∷ none ∷ none ∷ none ∷ none ∷ none ∷ none ∷ none ∷ none
    -- from 500 on
    ∷ none ∷ none ∷ none ∷ none ∷ none ∷ none ∷ none ∷ none ∷ none ∷ none
    ∷ none ∷ none ∷ none ∷ none ∷ none ∷ none ∷ none ∷ none ∷ none ∷ none
    ∷ none ∷ none ∷ none ∷ none ∷ none ∷ none ∷ none ∷ none ∷ none ∷ none
    ∷ none ∷ none ∷ none ∷ none ∷ none ∷ none ∷ none ∷ none ∷ none ∷ none
    ∷ none ∷ none ∷ none ∷ none ∷ none ∷ none ∷ none ∷ none ∷ none ∷ none
    ∷ none ∷ none ∷ none ∷ none ∷ none ∷ none ∷ none ∷ none ∷ none ∷ none
    ∷ none ∷ none ∷ none ∷ none ∷ none ∷ none ∷ none ∷ none ∷ none ∷ none
    ∷ none ∷ none ∷ none ∷ none ∷ none ∷ none ∷ none ∷ none ∷ none ∷ none
    ∷ none ∷ none ∷ none ∷ none ∷ none ∷ none ∷ none ∷ none ∷ none ∷ none
    ∷ none ∷ none ∷ none ∷ none ∷ none ∷ none ∷ none ∷ none ∷ none ∷ none
    -- from 600 on
    ∷ none ∷ none ∷ none ∷ none ∷ none ∷ none ∷ none ∷ none ∷ none ∷ none
    ∷ none ∷ none ∷ none ∷ none ∷ none ∷ none ∷ none ∷ none ∷ none ∷ none
    ∷ none ∷ none ∷ none ∷ none ∷ none ∷ none ∷ none ∷ none ∷ none ∷ none
    ∷ none ∷ none ∷ none ∷ none ∷ none ∷ none ∷ none ∷ none ∷ none ∷ none
    ∷ none ∷ none ∷ none ∷ none ∷ none ∷ none ∷ none ∷ none ∷ none ∷ none
    ∷ none ∷ none ∷ none ∷ none ∷ none ∷ none ∷ none ∷ none ∷ none ∷ none
    ∷ none ∷ none ∷ none ∷ none ∷ none ∷ none ∷ none ∷ none ∷ none ∷ none
    ∷ none ∷ none ∷ none ∷ none ∷ none ∷ none ∷ none ∷ none ∷ none ∷ none
    ∷ none ∷ none ∷ none ∷ none ∷ none ∷ none ∷ none ∷ none ∷ none ∷ none
    ∷ none ∷ none ∷ none ∷ none ∷ none ∷ none ∷ none ∷ none ∷ none ∷ none
    -- from 700 on
    ∷ none ∷ none ∷ none ∷ none ∷ none ∷ none ∷ none ∷ none ∷ none ∷ none
    ∷ none ∷ none ∷ none ∷ none ∷ none ∷ none ∷ none ∷ none ∷ none ∷ none
    ∷ none ∷ none ∷ none ∷ none ∷ none ∷ none ∷ none ∷ none ∷ none ∷ none
    ∷ none ∷ none ∷ none ∷ none ∷ none ∷ none ∷ none ∷ none ∷ none ∷ none
    ∷ none ∷ none ∷ none ∷ none ∷ none ∷ none ∷ none ∷ none ∷ none ∷ none
    ∷ none ∷ none ∷ none ∷ none ∷ none ∷ none ∷ none ∷ none ∷ none ∷ none
    ∷ none ∷ none ∷ none ∷ none ∷ none ∷ none ∷ none ∷ none ∷ none ∷ none
    ∷ none ∷ none ∷ none ∷ none ∷ none ∷ none ∷ none ∷ none ∷ none ∷ none
    ∷ none ∷ none ∷ none ∷ none ∷ none ∷ none ∷ none ∷ none ∷ none ∷ none
    ∷ none ∷ none ∷ none ∷ none ∷ none ∷ none ∷ none ∷ none ∷ none ∷ none
    -- from 800 on
    ∷ none ∷ none ∷ none ∷ none ∷ none ∷ none ∷ none ∷ none ∷ none ∷ none
    ∷ none ∷ none ∷ none ∷ none ∷ none ∷ none ∷ none ∷ none ∷ none ∷ none
    ∷ none ∷ none ∷ none ∷ none ∷ none ∷ none ∷ none ∷ none ∷ none ∷ none
    ∷ none ∷ none ∷ none ∷ none ∷ none ∷ none ∷ none ∷ none ∷ none ∷ none
    ∷ none ∷ none ∷ none ∷ none ∷ none ∷ none ∷ none ∷ none ∷ none ∷ none
    ∷ none ∷ none ∷ none ∷ none ∷ none ∷ none ∷ none ∷ none ∷ none ∷ none
    ∷ none ∷ none ∷ none ∷ none ∷ none ∷ none ∷ none ∷ none ∷ none ∷ none
    ∷ none ∷ none ∷ none ∷ none ∷ none ∷ none ∷ none ∷ none ∷ none ∷ none
    ∷ none ∷ none ∷ none ∷ none ∷ none ∷ none ∷ none ∷ none ∷ none ∷ none
    ∷ none ∷ none ∷ none ∷ none ∷ none ∷ none ∷ none ∷ none ∷ none ∷ none
    -- from 900 on
    ∷ none ∷ none ∷ none ∷ none ∷ none ∷ none ∷ none ∷ none ∷ none ∷ none
    ∷ none ∷ none ∷ none ∷ none ∷ none ∷ none ∷ none ∷ none ∷ none ∷ none
    ∷ none ∷ none ∷ none ∷ none ∷ none ∷ none ∷ none ∷ none ∷ none ∷ none
    ∷ none ∷ none ∷ none ∷ none ∷ none ∷ none ∷ none ∷ none ∷ none ∷ none
    ∷ none ∷ none ∷ none ∷ none ∷ none ∷ none ∷ none ∷ none ∷ none ∷ none
    ∷ none ∷ none ∷ none ∷ none ∷ none ∷ none ∷ none ∷ none ∷ none ∷ none
    ∷ none ∷ none ∷ none ∷ none ∷ none ∷ none ∷ none ∷ none ∷ none ∷ none
    ∷ none ∷ none ∷ none ∷ none ∷ none ∷ none ∷ none ∷ none ∷ none ∷ none
    ∷ none ∷ none ∷ none ∷ none ∷ none ∷ none ∷ none ∷ none ∷ none ∷ none
    ∷ none ∷ none ∷ none ∷ none ∷ none ∷ none ∷ none ∷ none ∷ none ∷ none
    -- from 1000 on
    ∷ row 2 8 no ∷ row 2 8 no ∷ row 2 8 no ∷ row 2 8 no ∷ row 2 8 no
    ∷ row 2 8 no ∷ row 2 8 no ∷ row 2 8 no ∷ row 2 8 no ∷ row 2 8 no
    ∷ row 2 8 no ∷ row 2 8 no ∷ row 2 8 no ∷ row 2 8 no ∷ row 2 8 no
    ∷ row 2 8 no ∷ row 2 8 no ∷ row 2 8 no ∷ row 2 8 no ∷ row 2 8 no
    ∷ row 2 8 no ∷ row 2 8 no ∷ row 2 8 no ∷ row 2 8 no ∷ row 2 8 no
    ∷ row 2 8 no ∷ row 2 8 no ∷ row 2 8 no ∷ row 2 8 no ∷ row 2 8 no
    ∷ row 2 8 no ∷ row 2 8 no ∷ row 2 8 no ∷ row 2 8 no ∷ row 2 8 no
    ∷ row 2 8 no ∷ row 2 8 no ∷ row 2 8 no ∷ row 2 8 no ∷ row 2 8 no
    ∷ row 2 8 no ∷ row 2 8 no ∷ row 2 8 no ∷ row 2 8 no ∷ row 2 8 no
    ∷ row 2 8 no ∷ row 2 8 no ∷ row 2 8 no ∷ row 2 8 no ∷ row 2 8 no
    ∷ row 2 8 no ∷ row 2 8 no ∷ row 2 8 no ∷ row 2 8 no ∷ row 2 8 no
    ∷ row 2 8 no ∷ row 2 8 no ∷ row 2 8 no ∷ row 2 8 no ∷ row 2 8 no
    ∷ row 2 8 no ∷ row 2 8 no ∷ row 2 8 no ∷ row 2 8 no ∷ row 2 8 no
    ∷ row 2 8 no ∷ row 2 8 no ∷ row 2 8 no ∷ row 2 8 no ∷ row 2 8 no
    ∷ row 2 8 no ∷ row 2 8 no ∷ row 2 8 no ∷ row 2 8 no ∷ row 2 8 no
    ∷ row 2 8 no ∷ row 2 8 no ∷ row 2 8 no ∷ row 2 8 no ∷ row 2 8 no
    ∷ row 2 8 no ∷ row 2 8 no ∷ row 2 8 no ∷ row 2 8 no ∷ row 2 8 no
    ∷ row 2 8 no ∷ row 2 8 no ∷ row 2 8 no ∷ row 2 8 no ∷ row 2 8 no
    ∷ row 2 8 no ∷ row 2 8 no ∷ row 2 8 no ∷ row 2 8 no ∷ row 2 8 no
    ∷ row 2 8 no ∷ row 2 8 no ∷ row 2 8 no ∷ row 2 8 no ∷ row 2 8 no
    -- from 1100 on
    ∷ row 2 8 13 ∷ row 2 8 13
    ∷ []

-- every row says what the ranges say of its template, above the last one they say "no index", and
-- the mark is never told as an index
pub record TableIsTheRanges : Type 0 where
  pub so_many : length rows ≡ 1102
  pub in_every_row : (template : ℕ) → template < 1102
      → columns (get_or rows template none) ≡ as_crate template
  pub none_above : (template : ℕ) → 1101 < template → as_crate template ≡ columns none
  pub mark_is_none : (octet : ℕ) → column octet ≡ Some no → ⊥
