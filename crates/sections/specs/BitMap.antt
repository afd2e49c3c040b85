-- The field of section 6 (01, "Fields").
use Rattle.std.specs.Prelude.{ℕ, List, ltb, length, get_or, Option, Some, None}
use Rattle.octets.specs.Words.{pick}
use Rattle.sections.specs.Kinds.{least_bit_map}
use Rattle.sections.specs.declared.bit_map.BitMap.{BitMap}

-- none under the least payload
unfoldable pub bit_map_of : List ℕ → Option BitMap
bit_map_of s =
    pick (ltb (length s) least_bit_map) None
    (Some (record { indicator = get_or s 0 0 }))
