-- The lent tables (01, "Order": "The section table is rows of three numbers").
use Rattle.std.specs.Prelude.{ℕ, ◌/◌, List, [], ◌∷◌, ◌++◌, length, drop}
use Rattle.framing.specs.declared.read.Section.{Section}
use Rattle.index.specs.declared.bounds.Room.{Room}

-- room for a row is three numbers, and a remainder is no room
abbrev pub room_of : ℕ → ℕ → Room
room_of numbers lines = record { rows = numbers / 3; lines = lines }

-- section number, offset, length of each section
unfoldable pub rows_of : List Section → List ℕ
rows_of [] = []
rows_of (s ∷ more) = s.number ∷ s.offset.0 ∷ s.length ∷ rows_of more

-- a table that was lent: what is stored, and behind it what was there before
abbrev pub stored_over : {A : Type 0} → List A → List A → List A
stored_over new before = new ++ drop (length new) before
