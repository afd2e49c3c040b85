-- Demand 1: what an inventory and the reader of a list leave of the memory that they are lent.
use Rattle.std.specs.Prelude.{Option, Some, None, Ok, Err}
use Prim.Native.Nat.{ℕ, ◌+◌, ◌*◌, ◌/◌, ◌≤◌}
use native.Mathlib.Omega.{arith}
use mathlib.Core.Path.{◌≡◌, refl}
use mathlib.Core.List.{List, [], ◌∷◌, ◌++◌}
use lib.Dec.{ltb, leb}
use lib.ListN.{length, length-append}
use borrow.Author.Tests.{ltb-false, leb-false}
use Rattle.framing.proofs.Tests.{by_test}
use Rattle.index.specs.Bounds.{unlimited}
use Rattle.index.specs.Numbers.{stored, unplaced}
use Rattle.index.specs.Walk.{walked}
use Rattle.entries.specs.Entries.{text_of}
use Rattle.entries.specs.declared.Entry.{Entry}
use Rattle.inventory.specs.Inventory.{TextWritten, text_into, inventory_by, entries_of, inventory_of}
use Rattle.inventory.specs.End.{inventory_end}
use Rattle.lists.specs.Line.{LineSaid, says, says_nothing, entry_of}
use Rattle.lists.specs.Lists.{ListTold, line_read, lines_read, text_lines, list_told, octet_numbers, time_numbers, entry_numbers, list_numbers, read_of}
use Rattle.promises.specs.Lent.{Leaves, InventoryLeaves, ListStores}
use Rattle.promises.proofs.Leaves.{in_front, held}
use Rattle.products.specs.declared.ForecastTime.{ForecastTime}
use Rattle.index.specs.Outcome.{Outcome}

-- a text stands in front where it fits, and a refusal writes nothing
pub inventory_leaves : InventoryLeaves
unfolding inventory_of inventory_by text_into inventory_end unplaced stored
inventory_leaves file text = go (walked unlimited file).outcome
  where
    Kept : TextWritten → Type 0
    Kept w = Leaves (inventory_end w.answer).written text w.text

    go : (o : Outcome) → Kept (inventory_by o (entries_of file) text)
    go (Ok tt) =
        let written = text_of (entries_of file) in
        by_test Kept (ltb (length text) (length written)) (λ _. (refl, refl)) λ e.
        in_front written text (length written) refl (ltb-false (length text) (length written) e)
    go (Err stop) = (refl, refl)

-- an entry is thirteen numbers
two_numbers : (o : Option ℕ) → length (octet_numbers o) ≡ 2
unfolding octet_numbers
two_numbers (Some n) = refl
two_numbers None = refl

three_numbers : (t : Option ForecastTime) → length (time_numbers t) ≡ 3
unfolding time_numbers
three_numbers (Some t) = refl
three_numbers None = refl

thirteen : (e : Entry) → length (entry_numbers e) ≡ 13
unfolding entry_numbers
thirteen e =
    let first = length-append (octet_numbers e.category) (octet_numbers e.number ++ (time_numbers e.time ++ octet_numbers e.surface)) in
    let second = length-append (octet_numbers e.number) (time_numbers e.time ++ octet_numbers e.surface) in
    let third = length-append (time_numbers e.time) (octet_numbers e.surface) in
    let four = two_numbers e.category in
    let five = two_numbers e.number in
    let six = three_numbers e.time in
    let seven = two_numbers e.surface in
    omega arith

thirteen_each : (entries : List Entry) → length (list_numbers entries) ≡ 13 * length entries
unfolding list_numbers
thirteen_each [] = refl
thirteen_each (e ∷ more) =
    let later = thirteen_each more in
    let one = thirteen e in
    let sum = length-append (entry_numbers e) (list_numbers more) in
    omega arith

-- no more are read than there is room for
abbrev Within : ℕ → ℕ → ListTold → Type 0
Within room read told = read ≤ room → read + length told.entries ≤ room

line_within : (room read : ℕ) (m : LineSaid) (later : ListTold) → Within room (read + 1) later → Within room read (line_read room read m later)
line_within room read says_nothing later rest = λ fits. omega arith
line_within room read (says e) later rest =
    by_test (Within room read) (leb room read) (λ _ fits. omega arith) λ free fits.
    let left = leb-false room read free in
    let more = rest (omega arith) in
    omega arith

lines_within : (room read : ℕ) (lines : List (List ℕ)) (left : List ℕ) → Within room read (lines_read room read lines left)
unfolding lines_read
lines_within room read [] left = λ fits. omega arith
lines_within room read (line ∷ more) left =
    line_within room read (entry_of line) (lines_read room (read + 1) more left) (lines_within room (read + 1) more left)

-- a list's entries stand in front of what the table held
pub list_stores : ListStores
unfolding read_of list_told
list_stores text table =
    let room = length table / 13 in
    let told = list_told room text in
    let numbers = thirteen_each told.entries in
    let within : length told.entries ≤ room = omega (arith, lines_within room 0 (text_lines text).closed (text_lines text).left (omega arith)) in
    (held (list_numbers told.entries) table (omega arith), refl, refl)
