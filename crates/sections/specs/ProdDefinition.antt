-- The fields of section 4, octets of the payload from 0 (01, "Fields").
use Rattle.std.specs.Prelude.{ℕ, List, ltb, length, Option, Some, None}
use Rattle.octets.specs.Words.{pick}
use Rattle.octets.specs.BigEndian.{be_at}
use Rattle.sections.specs.Kinds.{least_product}
use Rattle.sections.specs.declared.prod_definition.ProdDefinition.{ProdDefinition}

-- none under the least payload
unfoldable pub prod_definition_of : List ℕ → Option ProdDefinition
prod_definition_of s =
    pick (ltb (length s) least_product) None
    (Some (record { coordinates = be_at s 0 2; template = be_at s 2 2 }))
