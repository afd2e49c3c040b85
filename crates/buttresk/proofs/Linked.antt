-- What this crate gives to a link: its table, and of each public function that its code stands in
-- every world that holds this table and those below it.
use mathlib.Core.Bool.{true}
use prog.Linked.{World, Tree, Holds, in_world}
use prog.LinkedThreads.{HasT}
use Rattle.inventory.proofs.Linked as inventory_link
use Rattle.lists.proofs.Linked as lists_link
use Rattle.products.proofs.Linked as products_link
use Rattle.publish.proofs.Linked as publish_link
use Rattle.sections.proofs.Linked as sections_link
use Rattle.walk_numbers.proofs.Linked as walk_numbers_link
use Rattle.writer.proofs.Linked as writer_link
use Rattle.buttresk.proofs.TheLink as link
use Rattle.buttresk.proofs.fields.buttresk_bit_map.Symbol as code_of_buttresk_bit_map
use Rattle.buttresk.proofs.fields.buttresk_grid_definition.Symbol as code_of_buttresk_grid_definition
use Rattle.buttresk.proofs.fields.buttresk_identification.Symbol as code_of_buttresk_identification
use Rattle.buttresk.proofs.fields.buttresk_indicator.Symbol as code_of_buttresk_indicator
use Rattle.buttresk.proofs.storing.buttresk_inventory.Symbol as code_of_buttresk_inventory
use Rattle.buttresk.proofs.product.buttresk_product_definition.Symbol as code_of_buttresk_product_definition
use Rattle.buttresk.proofs.storing.buttresk_publish.Symbol as code_of_buttresk_publish
use Rattle.buttresk.proofs.listing.buttresk_read_list.Symbol as code_of_buttresk_read_list
use Rattle.buttresk.proofs.fields.buttresk_representation.Symbol as code_of_buttresk_representation
use Rattle.buttresk.proofs.walking.buttresk_walk.Symbol as code_of_buttresk_walk
use Rattle.buttresk.proofs.product.buttresk_when_and_where.Symbol as code_of_buttresk_when_and_where
use Rattle.buttresk.proofs.storing.buttresk_write.Symbol as code_of_buttresk_write
use Rattle.buttresk.proofs.product.OctetFieldFromOptionU8.from.Symbol as code_of_octetfield_from
use Rattle.buttresk.proofs.product.TimeFieldFromOptionForecastTime.from.Symbol as code_of_timefield_from
use Rattle.buttresk.proofs.product.SurfaceFromFixedSurface.from.Symbol as code_of_surface_from
use Rattle.buttresk.proofs.product.SurfacesFieldFromOptionTuple2FixedSurfaceFixedSurface.from.Symbol as code_of_surfacesfield_from
use Rattle.buttresk.proofs.product.WhenWhereFieldsFromWhenWhere.from.Symbol as code_of_whenwherefields_from
use Rattle.buttresk.proofs.listing.ReadAnswerFromListAnswer.from.Symbol as code_of_readanswer_from
use Rattle.buttresk.proofs.storing.StoreAnswerFromStoreEnd.from.Symbol as code_of_storeanswer_from

unfoldable pub table : Tree
table = link.table

-- the world holds this table, and the tables below
abbrev pub Stands : World → Type 0
Stands W = Holds W "buttresk" table × inventory_link.Stands W × lists_link.Stands W × products_link.Stands W × publish_link.Stands W × sections_link.Stands W × walk_numbers_link.Stands W × writer_link.Stands W

below : (W : World) → Stands W → link.Below W
below W stands = (inventory_link.linked_inventory W stands.1, (inventory_link.linked_inventory_end W stands.1, (lists_link.linked_list_end W stands.2, (lists_link.linked_read_list W stands.2, (products_link.linked_product_of W stands.3, (products_link.linked_when_and_where W stands.3, (publish_link.linked_copy_end W stands.4, (publish_link.linked_publish W stands.4, (sections_link.linked_bitmap_from_payload W stands.5, (sections_link.linked_griddefinition_from_payload W stands.5, (sections_link.linked_identification_from_payload W stands.5, (sections_link.linked_indicator_from_section W stands.5, (sections_link.linked_proddefinition_from_payload W stands.5, (sections_link.linked_reprdefinition_from_payload W stands.5, (walk_numbers_link.linked_walk_numbers W stands.6, (writer_link.linked_write W stands.7, (writer_link.linked_write_end W stands.7, tt)))))))))))))))))

pub linked_buttresk_bit_map : (W : World) → Stands W → HasT (in_world W) true code_of_buttresk_bit_map.code
unfolding table
linked_buttresk_bit_map W stands = link.«linked-buttresk::fields::buttresk_bit_map» W stands.0 (below W stands)

pub linked_buttresk_grid_definition : (W : World) → Stands W → HasT (in_world W) true code_of_buttresk_grid_definition.code
unfolding table
linked_buttresk_grid_definition W stands = link.«linked-buttresk::fields::buttresk_grid_definition» W stands.0 (below W stands)

pub linked_buttresk_identification : (W : World) → Stands W → HasT (in_world W) true code_of_buttresk_identification.code
unfolding table
linked_buttresk_identification W stands = link.«linked-buttresk::fields::buttresk_identification» W stands.0 (below W stands)

pub linked_buttresk_indicator : (W : World) → Stands W → HasT (in_world W) true code_of_buttresk_indicator.code
unfolding table
linked_buttresk_indicator W stands = link.«linked-buttresk::fields::buttresk_indicator» W stands.0 (below W stands)

pub linked_buttresk_inventory : (W : World) → Stands W → HasT (in_world W) true code_of_buttresk_inventory.code
unfolding table
linked_buttresk_inventory W stands = link.«linked-buttresk::storing::buttresk_inventory» W stands.0 (below W stands)

pub linked_buttresk_product_definition : (W : World) → Stands W → HasT (in_world W) true code_of_buttresk_product_definition.code
unfolding table
linked_buttresk_product_definition W stands = link.«linked-buttresk::product::buttresk_product_definition» W stands.0 (below W stands)

pub linked_buttresk_publish : (W : World) → Stands W → HasT (in_world W) true code_of_buttresk_publish.code
unfolding table
linked_buttresk_publish W stands = link.«linked-buttresk::storing::buttresk_publish» W stands.0 (below W stands)

pub linked_buttresk_read_list : (W : World) → Stands W → HasT (in_world W) true code_of_buttresk_read_list.code
unfolding table
linked_buttresk_read_list W stands = link.«linked-buttresk::listing::buttresk_read_list» W stands.0 (below W stands)

pub linked_buttresk_representation : (W : World) → Stands W → HasT (in_world W) true code_of_buttresk_representation.code
unfolding table
linked_buttresk_representation W stands = link.«linked-buttresk::fields::buttresk_representation» W stands.0 (below W stands)

pub linked_buttresk_walk : (W : World) → Stands W → HasT (in_world W) true code_of_buttresk_walk.code
unfolding table
linked_buttresk_walk W stands = link.«linked-buttresk::walking::buttresk_walk» W stands.0 (below W stands)

pub linked_buttresk_when_and_where : (W : World) → Stands W → HasT (in_world W) true code_of_buttresk_when_and_where.code
unfolding table
linked_buttresk_when_and_where W stands = link.«linked-buttresk::product::buttresk_when_and_where» W stands.0 (below W stands)

pub linked_buttresk_write : (W : World) → Stands W → HasT (in_world W) true code_of_buttresk_write.code
unfolding table
linked_buttresk_write W stands = link.«linked-buttresk::storing::buttresk_write» W stands.0 (below W stands)

pub linked_octetfield_from : (W : World) → Stands W → HasT (in_world W) true code_of_octetfield_from.code
unfolding table
linked_octetfield_from W stands = link.«linked-buttresk::product::OctetFieldFromOptionU8::from» W stands.0 (below W stands)

pub linked_timefield_from : (W : World) → Stands W → HasT (in_world W) true code_of_timefield_from.code
unfolding table
linked_timefield_from W stands = link.«linked-buttresk::product::TimeFieldFromOptionForecastTime::from» W stands.0 (below W stands)

pub linked_surface_from : (W : World) → Stands W → HasT (in_world W) true code_of_surface_from.code
unfolding table
linked_surface_from W stands = link.«linked-buttresk::product::SurfaceFromFixedSurface::from» W stands.0 (below W stands)

pub linked_surfacesfield_from : (W : World) → Stands W → HasT (in_world W) true code_of_surfacesfield_from.code
unfolding table
linked_surfacesfield_from W stands = link.«linked-buttresk::product::SurfacesFieldFromOptionTuple2FixedSurfaceFixedSurface::from» W stands.0 (below W stands)

pub linked_whenwherefields_from : (W : World) → Stands W → HasT (in_world W) true code_of_whenwherefields_from.code
unfolding table
linked_whenwherefields_from W stands = link.«linked-buttresk::product::WhenWhereFieldsFromWhenWhere::from» W stands.0 (below W stands)

pub linked_readanswer_from : (W : World) → Stands W → HasT (in_world W) true code_of_readanswer_from.code
unfolding table
linked_readanswer_from W stands = link.«linked-buttresk::listing::ReadAnswerFromListAnswer::from» W stands.0 (below W stands)

pub linked_storeanswer_from : (W : World) → Stands W → HasT (in_world W) true code_of_storeanswer_from.code
unfolding table
linked_storeanswer_from W stands = link.«linked-buttresk::storing::StoreAnswerFromStoreEnd::from» W stands.0 (below W stands)
