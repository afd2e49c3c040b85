-- The fields of section 3, octets of the payload from 0 (01, "Fields").
use Rattle.std.specs.Prelude.{ℕ, List, ltb, length, Option, Some, None}
use Rattle.octets.specs.Words.{pick}
use Rattle.octets.specs.BigEndian.{be_at}
use Rattle.sections.specs.Kinds.{least_grid}
use Rattle.sections.specs.declared.grid_definition.GridDefinition.{GridDefinition}

-- none under the least payload
unfoldable pub grid_definition_of : List ℕ → Option GridDefinition
grid_definition_of s =
    pick (ltb (length s) least_grid) None
    (Some (record { points = be_at s 1 4; template = be_at s 7 2 }))
