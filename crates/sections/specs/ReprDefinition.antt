-- The fields of section 5, octets of the payload from 0 (01, "Fields").
use Rattle.std.specs.Prelude.{ℕ, List, ltb, length, Option, Some, None}
use Rattle.octets.specs.Words.{pick}
use Rattle.octets.specs.BigEndian.{be_at}
use Rattle.sections.specs.Kinds.{least_representation}
use Rattle.sections.specs.declared.repr_definition.ReprDefinition.{ReprDefinition}

-- none under the least payload
unfoldable pub repr_definition_of : List ℕ → Option ReprDefinition
repr_definition_of s =
    pick (ltb (length s) least_representation) None
    (Some (record { points = be_at s 0 4; template = be_at s 4 2 }))
