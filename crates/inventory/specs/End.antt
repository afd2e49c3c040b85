-- An answer of the inventory in documents 01 and 02's numbers: outcome, place, offset, detail and
-- the octets written.
use Rattle.std.specs.Prelude.{Result, Ok, Err, ℕ}
use Rattle.index.specs.Numbers.{end_of, stored, unplaced}
use Rattle.index.specs.declared.numbers.StoreEnd.{StoreEnd}
use Rattle.inventory.specs.declared.InventoryRefusal.TheVariants.{TextTooSmall, Walk}
use Rattle.inventory.specs.declared.InventoryRefusal.{InventoryRefusal}

-- the walk's refusals have the walk's own place, offset and detail; 20 has none
unfoldable pub inventory_end : Result ℕ InventoryRefusal → StoreEnd
inventory_end (Ok octets) = stored octets
inventory_end (Err (Walk stop)) = record { end = end_of (Err stop); written = 0 }
inventory_end (Err TextTooSmall) = unplaced 20 0
