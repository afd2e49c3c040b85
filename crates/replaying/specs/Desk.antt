-- The table of lines that a desk owns before it is lent: every number of every line is the largest
-- number.
use Rattle.std.specs.Prelude.{ℕ, min, ◌-◌, List, ◌++◌, replicate, Some}
use Rattle.index.specs.Lines.{place, span}
use Rattle.index.specs.declared.line.Line.{Line}
use Rattle.walk.specs.Tables.{Tabled, walk_of}

-- the largest number
abbrev pub largest : ℕ
largest = 18446744073709551615

-- a line that nothing was stored into
abbrev pub unset : Line
unset =
    record {
      message = largest;
      submessage = largest;
      indicator = place largest;
      identification = place largest;
      local = Some (place largest);
      grid = place largest;
      product = place largest;
      representation = place largest;
      bitmap = place largest;
      values = place largest;
      end = Some (place largest);
      span = span (record { 0 = largest }) largest;
    }

-- the walk with so many of the desk's 512 lines lent
unfoldable pub desk_walk : List ℕ → List ℕ → ℕ → Tabled
desk_walk file rows room = walk_of file rows (replicate (min room 512) unset)

-- all 512 lines after it: those that were not lent are as before
unfoldable pub desk_lines : List ℕ → List ℕ → ℕ → List Line
desk_lines file rows room = (desk_walk file rows room).lines ++ replicate (512 - min room 512) unset
