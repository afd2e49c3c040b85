-- What this crate gives to a link: its table, and of each public function that its code stands in
-- every world that holds this table and those below it.
use mathlib.Core.Bool.{true}
use prog.Linked.{World, Tree, Holds, in_world}
use prog.LinkedThreads.{HasT}
use Rattle.entries.proofs.Linked as entries_link
use Rattle.index.proofs.Linked as index_link
use Rattle.order.proofs.Linked as order_link
use Rattle.products.proofs.Linked as products_link
use Rattle.reading.proofs.Linked as reading_link
use Rattle.sections.proofs.Linked as sections_link
use Rattle.inventory.proofs.TheLink as link
use Rattle.inventory.proofs.inventory.Symbol as code_of_inventory
use Rattle.inventory.proofs.inventory_end.Symbol as code_of_inventory_end

unfoldable pub table : Tree
table = link.table

-- the world holds this table, and the tables below
abbrev pub Stands : World → Type 0
Stands W = Holds W "inventory" table × entries_link.Stands W × index_link.Stands W × order_link.Stands W × products_link.Stands W × reading_link.Stands W × sections_link.Stands W

below : (W : World) → Stands W → link.Below W
below W stands = (entries_link.linked_spell W stands.1, (index_link.linked_end_of W stands.2, (index_link.linked_stored W stands.2, (index_link.linked_unlisted W stands.2, (index_link.linked_unplaced W stands.2, (order_link.linked_completing W stands.3, (products_link.linked_product_by W stands.4, (reading_link.linked_look W stands.5, (reading_link.linked_start W stands.5, (sections_link.linked_indicator_from_section W stands.6, tt))))))))))

pub linked_inventory : (W : World) → Stands W → HasT (in_world W) true code_of_inventory.code
unfolding table
linked_inventory W stands = link.«linked-inventory::inventory» W stands.0 (below W stands)

pub linked_inventory_end : (W : World) → Stands W → HasT (in_world W) true code_of_inventory_end.code
unfolding table
linked_inventory_end W stands = link.«linked-inventory::inventory_end» W stands.0 (below W stands)
