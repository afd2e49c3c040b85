-- Machinery: what is put into a table, for the contracts of the functions that store.
use Rattle.std.specs.Prelude.{ℕ, ◌+◌, ◌*◌, ◌/◌, List, [], ◌∷◌, ◌++◌, length, take, drop, nat_le, nat_lt}
use Rattle.octets.specs.Words.{pick}
use Rattle.framing.specs.declared.read.Section.{Section}

-- the table with these elements from an index on
abbrev pub put_at : {A : Type 0} → ℕ → List A → List A → List A
put_at at new table = take at table ++ (new ++ drop (at + length new) table)

-- a section's row
abbrev pub row_of : Section → List ℕ
row_of s = s.number ∷ s.offset.0 ∷ s.length ∷ []

-- the table with a section's row at a place; as it was, if it has no such place
unfoldable pub row_put : ℕ → Section → List ℕ → List ℕ
row_put place s rows = pick (nat_le (length rows / 3) place) rows (put_at (place * 3) (row_of s) rows)

-- the table with these numbers from an index on; as it was, if it has no room for all of them there
unfoldable pub numbers_put : ℕ → List ℕ → List ℕ → List ℕ
numbers_put at numbers table =
    pick (nat_lt (length table) (at + length numbers)) table (put_at at numbers table)
