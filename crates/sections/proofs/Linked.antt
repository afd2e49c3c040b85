-- What this crate gives to a link: its table, and of each public function that its code stands in
-- every world that holds this table and those below it.
use mathlib.Core.Bool.{true}
use prog.Linked.{World, Tree, Holds, in_world}
use prog.LinkedThreads.{HasT}
use Rattle.octets.proofs.Linked as octets_link
use Rattle.sections.proofs.TheLink as link
use Rattle.sections.proofs.bit_map.BitMap.from_payload.Symbol as code_of_bitmap_from_payload
use Rattle.sections.proofs.grid_definition.GridDefinition.from_payload.Symbol as code_of_griddefinition_from_payload
use Rattle.sections.proofs.identification.Identification.from_payload.Symbol as code_of_identification_from_payload
use Rattle.sections.proofs.indicator.Indicator.from_section.Symbol as code_of_indicator_from_section
use Rattle.sections.proofs.kinds.least_payload_of.Symbol as code_of_least_payload_of
use Rattle.sections.proofs.prod_definition.ProdDefinition.from_payload.Symbol as code_of_proddefinition_from_payload
use Rattle.sections.proofs.repr_definition.ReprDefinition.from_payload.Symbol as code_of_reprdefinition_from_payload
use Rattle.sections.proofs.kinds.values_of.Symbol as code_of_values_of

unfoldable pub table : Tree
table = link.table

-- the world holds this table, and the tables below
abbrev pub Stands : World → Type 0
Stands W = Holds W "sections" table × octets_link.Stands W

below : (W : World) → Stands W → link.Below W
below W stands = (octets_link.linked_be16 W stands.1, (octets_link.linked_be32 W stands.1, (octets_link.linked_be64 W stands.1, tt)))

pub linked_bitmap_from_payload : (W : World) → Stands W → HasT (in_world W) true code_of_bitmap_from_payload.code
unfolding table
linked_bitmap_from_payload W stands = link.«linked-sections::bit_map::BitMap::from_payload» W stands.0 (below W stands)

pub linked_griddefinition_from_payload : (W : World) → Stands W → HasT (in_world W) true code_of_griddefinition_from_payload.code
unfolding table
linked_griddefinition_from_payload W stands = link.«linked-sections::grid_definition::GridDefinition::from_payload» W stands.0 (below W stands)

pub linked_identification_from_payload : (W : World) → Stands W → HasT (in_world W) true code_of_identification_from_payload.code
unfolding table
linked_identification_from_payload W stands = link.«linked-sections::identification::Identification::from_payload» W stands.0 (below W stands)

pub linked_indicator_from_section : (W : World) → Stands W → HasT (in_world W) true code_of_indicator_from_section.code
unfolding table
linked_indicator_from_section W stands = link.«linked-sections::indicator::Indicator::from_section» W stands.0 (below W stands)

pub linked_least_payload_of : (W : World) → Stands W → HasT (in_world W) true code_of_least_payload_of.code
unfolding table
linked_least_payload_of W stands = link.«linked-sections::kinds::least_payload_of» W stands.0 (below W stands)

pub linked_proddefinition_from_payload : (W : World) → Stands W → HasT (in_world W) true code_of_proddefinition_from_payload.code
unfolding table
linked_proddefinition_from_payload W stands = link.«linked-sections::prod_definition::ProdDefinition::from_payload» W stands.0 (below W stands)

pub linked_reprdefinition_from_payload : (W : World) → Stands W → HasT (in_world W) true code_of_reprdefinition_from_payload.code
unfolding table
linked_reprdefinition_from_payload W stands = link.«linked-sections::repr_definition::ReprDefinition::from_payload» W stands.0 (below W stands)

pub linked_values_of : (W : World) → Stands W → HasT (in_world W) true code_of_values_of.code
unfolding table
linked_values_of W stands = link.«linked-sections::kinds::values_of» W stands.0 (below W stands)
