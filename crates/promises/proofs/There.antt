-- One environment has the code of all public functions: that of the world of these crates' tables.
use Rattle.std.specs.Prelude.{[], ◌∷◌}
use mathlib.Core.Bool.{true}
use mathlib.Core.Path.{refl}
use lib.Chars.{codes}
use prog.Routine.{Env}
use prog.Wired.{Code, Wired}
use prog.Linked.{World, in_world}
use prog.LinkedThreads.{HasT, tie_t, tie_t-follows, tie_t-threads, has-wired_t}
use Rattle.octets.proofs.Linked as octets
use Rattle.sections.proofs.Linked as sections
use Rattle.products.proofs.Linked as products
use Rattle.framing.proofs.Linked as framing
use Rattle.order.proofs.Linked as order
use Rattle.index.proofs.Linked as index
use Rattle.reading.proofs.Linked as reading
use Rattle.standing.proofs.Linked as standing
use Rattle.walk.proofs.Linked as walk
use Rattle.walk_numbers.proofs.Linked as walk_numbers
use Rattle.publish.proofs.Linked as publish
use Rattle.pull.proofs.Linked as pull
use Rattle.writer.proofs.Linked as writer
use Rattle.entries.proofs.Linked as entries
use Rattle.inventory.proofs.Linked as inventory
use Rattle.lists.proofs.Linked as lists
use Rattle.buttresk.proofs.Linked as buttresk
use Rattle.requests.proofs.Linked as requests
use Rattle.promises.specs.Public.{CodeIsThere}

abbrev world : World
world =
    (codes "octets", octets.table)
    ∷ (codes "sections", sections.table)
    ∷ (codes "products", products.table)
    ∷ (codes "framing", framing.table)
    ∷ (codes "order", order.table)
    ∷ (codes "index", index.table)
    ∷ (codes "reading", reading.table)
    ∷ (codes "standing", standing.table)
    ∷ (codes "walk", walk.table)
    ∷ (codes "walk_numbers", walk_numbers.table)
    ∷ (codes "publish", publish.table)
    ∷ (codes "pull", pull.table)
    ∷ (codes "writer", writer.table)
    ∷ (codes "entries", entries.table)
    ∷ (codes "inventory", inventory.table)
    ∷ (codes "lists", lists.table)
    ∷ (codes "buttresk", buttresk.table)
    ∷ (codes "requests", requests.table)
    ∷ []

environment : Env
environment = tie_t (in_world world)

has : (code : Code) → HasT (in_world world) true code → Wired environment code
unfolding environment
has code h =
    let look = in_world world in
    has-wired_t look (tie_t look) (tie_t-follows look) (tie_t-threads look) code h

stands_octets : octets.Stands world
stands_octets = refl

stands_sections : sections.Stands world
stands_sections = (refl, stands_octets)

stands_products : products.Stands world
stands_products = (refl, stands_octets)

stands_framing : framing.Stands world
stands_framing = (refl, stands_octets, stands_sections)

stands_order : order.Stands world
stands_order = refl

stands_index : index.Stands world
stands_index = refl

stands_reading : reading.Stands world
stands_reading = (refl, stands_framing, stands_octets, stands_order, stands_sections)

stands_standing : standing.Stands world
stands_standing = refl

stands_walk : walk.Stands world
stands_walk = (refl, stands_index, stands_order, stands_reading, stands_standing)

stands_walk_numbers : walk_numbers.Stands world
stands_walk_numbers = (refl, stands_index, stands_order, stands_reading, stands_standing)

stands_publish : publish.Stands world
stands_publish = (refl, stands_index, stands_reading, stands_sections)

stands_pull : pull.Stands world
stands_pull = (refl, stands_index, stands_reading)

stands_writer : writer.Stands world
stands_writer = (refl, stands_index, stands_order, stands_sections)

stands_entries : entries.Stands world
stands_entries = refl

stands_inventory : inventory.Stands world
stands_inventory = (refl, stands_entries, stands_index, stands_order, stands_products, stands_reading, stands_sections)

stands_lists : lists.Stands world
stands_lists = (refl, stands_standing)

stands_buttresk : buttresk.Stands world
stands_buttresk = (refl, stands_inventory, stands_lists, stands_products, stands_publish, stands_sections, stands_walk_numbers, stands_writer)

stands_requests : requests.Stands world
stands_requests = (refl, stands_octets)

pub code_is_there : CodeIsThere
code_is_there = (
  environment,
  record {
    octets_be16 = has _ (octets.linked_be16 world stands_octets);
    octets_be32 = has _ (octets.linked_be32 world stands_octets);
    octets_be64 = has _ (octets.linked_be64 world stands_octets);
    octets_sign_and_size = has _ (octets.linked_sign_and_size world stands_octets);
    sections_least_payload_of = has _ (sections.linked_least_payload_of world stands_sections);
    sections_values_of = has _ (sections.linked_values_of world stands_sections);
    Indicator-from_section = has _ (sections.linked_indicator_from_section world stands_sections);
    Identification-from_payload = has _ (sections.linked_identification_from_payload world stands_sections);
    GridDefinition-from_payload = has _ (sections.linked_griddefinition_from_payload world stands_sections);
    ProdDefinition-from_payload = has _ (sections.linked_proddefinition_from_payload world stands_sections);
    ReprDefinition-from_payload = has _ (sections.linked_reprdefinition_from_payload world stands_sections);
    BitMap-from_payload = has _ (sections.linked_bitmap_from_payload world stands_sections);
    products_offsets_at = has _ (products.linked_offsets_at world stands_products);
    products_offsets_by = has _ (products.linked_offsets_by world stands_products);
    products_when_and_where = has _ (products.linked_when_and_where world stands_products);
    products_product_of = has _ (products.linked_product_of world stands_products);
    products_product_by = has _ (products.linked_product_by world stands_products);
    framing_framed_at = has _ (framing.linked_framed_at world stands_framing);
    framing_next_start = has _ (framing.linked_next_start world stands_framing);
    order_judge = has _ (order.linked_judge world stands_order);
    order_judge_read = has _ (order.linked_judge_read world stands_order);
    order_completing = has _ (order.linked_completing world stands_order);
    order_between_messages = has _ (order.linked_between_messages world stands_order);
    order_judge_all = has _ (order.linked_judge_all world stands_order);
    index_opened = has _ (index.linked_opened world stands_index);
    index_in_force = has _ (index.linked_in_force world stands_index);
    index_with_span = has _ (index.linked_with_span world stands_index);
    index_with_submessage = has _ (index.linked_with_submessage world stands_index);
    index_line_of = has _ (index.linked_line_of world stands_index);
    index_unlisted = has _ (index.linked_unlisted world stands_index);
    index_end_of = has _ (index.linked_end_of world stands_index);
    index_stored = has _ (index.linked_stored world stands_index);
    index_unplaced = has _ (index.linked_unplaced world stands_index);
    reading_start = has _ (reading.linked_start world stands_reading);
    reading_look = has _ (reading.linked_look world stands_reading);
    reading_glance = has _ (reading.linked_glance world stands_reading);
    standing_one_more = has _ (standing.linked_one_more world stands_standing);
    standing_span_after = has _ (standing.linked_span_after world stands_standing);
    standing_passed_row = has _ (standing.linked_passed_row world stands_standing);
    standing_put_row = has _ (standing.linked_put_row world stands_standing);
    standing_put_numbers = has _ (standing.linked_put_numbers world stands_standing);
    walk_walk = has _ (walk.linked_walk world stands_walk);
    walk_numbers_walk_numbers = has _ (walk_numbers.linked_walk_numbers world stands_walk_numbers);
    pull_first = has _ (pull.linked_first world stands_pull);
    pull_pull_at = has _ (pull.linked_pull_at world stands_pull);
    pull_new = has _ (pull.linked_new world stands_pull);
    pull-Reader_next = has _ (pull.linked_reader_next world stands_pull);
    publish_publish = has _ (publish.linked_publish world stands_publish);
    publish_copy_end = has _ (publish.linked_copy_end world stands_publish);
    writer_write = has _ (writer.linked_write world stands_writer);
    writer_write_end = has _ (writer.linked_write_end world stands_writer);
    entries_spell = has _ (entries.linked_spell world stands_entries);
    inventory_inventory = has _ (inventory.linked_inventory world stands_inventory);
    inventory_inventory_end = has _ (inventory.linked_inventory_end world stands_inventory);
    lists_read_list = has _ (lists.linked_read_list world stands_lists);
    lists_list_end = has _ (lists.linked_list_end world stands_lists);
    requests_request_at = has _ (requests.linked_request_at world stands_requests);
    buttresk_walk = has _ (buttresk.linked_buttresk_walk world stands_buttresk);
    buttresk_publish = has _ (buttresk.linked_buttresk_publish world stands_buttresk);
    buttresk_write = has _ (buttresk.linked_buttresk_write world stands_buttresk);
    buttresk_inventory = has _ (buttresk.linked_buttresk_inventory world stands_buttresk);
    buttresk_read_list = has _ (buttresk.linked_buttresk_read_list world stands_buttresk);
    buttresk_indicator = has _ (buttresk.linked_buttresk_indicator world stands_buttresk);
    buttresk_identification = has _ (buttresk.linked_buttresk_identification world stands_buttresk);
    buttresk_grid_definition = has _ (buttresk.linked_buttresk_grid_definition world stands_buttresk);
    buttresk_product_definition = has _ (buttresk.linked_buttresk_product_definition world stands_buttresk);
    buttresk_when_and_where = has _ (buttresk.linked_buttresk_when_and_where world stands_buttresk);
    buttresk_representation = has _ (buttresk.linked_buttresk_representation world stands_buttresk);
    buttresk_bit_map = has _ (buttresk.linked_buttresk_bit_map world stands_buttresk);
    StoreAnswer-from = has _ (buttresk.linked_storeanswer_from world stands_buttresk);
    ReadAnswer-from = has _ (buttresk.linked_readanswer_from world stands_buttresk);
    OctetField-from = has _ (buttresk.linked_octetfield_from world stands_buttresk);
    TimeField-from = has _ (buttresk.linked_timefield_from world stands_buttresk);
    Surface-from = has _ (buttresk.linked_surface_from world stands_buttresk);
    SurfacesField-from = has _ (buttresk.linked_surfacesfield_from world stands_buttresk);
    WhenWhereFields-from = has _ (buttresk.linked_whenwherefields_from world stands_buttresk);
  },
)
