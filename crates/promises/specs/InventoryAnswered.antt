-- The text inventory and its reader (02, Ticket 1): what stands in an inventory, when it is refused
-- or written, and that it reads back. The walk's own refusals are in the crate `walk_laws`.
use Rattle.std.specs.Prelude.{ℕ, ◌≤◌, ◌<◌, ◌≡◌, List, length, Ok}
use Rattle.octets.specs.Words.{Not, Iff}
use Rattle.index.specs.Bounds.{unlimited}
use Rattle.index.specs.Numbers.{stored}
use Rattle.index.specs.Pins.{Every}
use Rattle.entries.specs.Entries.{text_of}
use Rattle.entries.specs.Laws as form
use Rattle.inventory.specs.Inventory.{entries_of, inventory_of}
use Rattle.inventory.specs.End.{inventory_end}
use Rattle.inventory.specs.Laws as inventory
use Rattle.lists.specs.Lists.{list_told}
use Rattle.lists.specs.Laws as lists
use Rattle.walk_laws.specs.ExactlyWhen.{Given, EndsClean}
use Rattle.promises.specs.CopyGiven.{refusing}

-- the text of a file's inventory
abbrev pub inventory_text : List ℕ → List ℕ
inventory_text file = text_of (entries_of file)

-- number, place, offset and detail of an inventory's refusal: the walk's own, 1 to 12, no tables
-- being lent; then 20
pub data InventoryGiven (file text : List ℕ) : ℕ → ℕ → ℕ → ℕ → Type 0 where
  walks_own : {n p o d : ℕ} → Given unlimited file n p o d → InventoryGiven file text n p o d
  text_too_small : EndsClean unlimited file → length text < length (inventory_text file)
      → InventoryGiven file text 20 0 0 0

-- an inventory is refused exactly when
abbrev pub InventoryRefusedExactlyWhen : Type 0
InventoryRefusedExactlyWhen =
    (file text : List ℕ) (n p o d : ℕ) → Not (n ≡ 0)
    → Iff (inventory_end (inventory_of file text).answer ≡ refusing n p o d)
    (InventoryGiven file text n p o d)

-- and written exactly when, all of it
abbrev pub InventoryWrittenExactlyWhen : Type 0
InventoryWrittenExactlyWhen =
    (file text : List ℕ) (octets : ℕ)
    → Iff (inventory_end (inventory_of file text).answer ≡ stored octets)
    (EndsClean unlimited file × (length (inventory_text file) ≤ length text)
    × (octets ≡ length (inventory_text file)))

-- an inventory of a file of octets reads back, in a table that holds its entries
abbrev pub InventoryReadsBack : Type 0
InventoryReadsBack =
    (file : List ℕ) → Every (λ octet. octet ≤ 255) file
    → (room : ℕ) → length (entries_of file) ≤ room
    → list_told room (inventory_text file) ≡ record { entries = entries_of file; end = Ok tt }

-- all that is promised of both
pub record TextInventory : Type 0 where
  -- one entry for each line of the walk, each field pinned to the file
  pub each_line : inventory.EachLineHasItsEntry
  pub refused : InventoryRefusedExactlyWhen
  pub written : InventoryWrittenExactlyWhen
  -- the form, said without a reader: a list has one text, a text at most one list; what is written
  -- of a list is in this form
  pub one_text : form.OneText
  pub one_list : form.OneList
  pub says_its_list : form.WrittenSaysItsList
  -- 21, 14 or all read, exactly when the form says so; what is written reads back
  pub list_read : lists.ListExactlyWhen
  pub list_reads_back : lists.ListReadsBack
  pub inventory_reads_back : InventoryReadsBack
