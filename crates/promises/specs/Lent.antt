-- What a walk, a public copy, a writer, an inventory and the reader of a list leave of the memory
-- that they are lent (01, "Refusal numbers": what was stored before stands, all else lent is
-- untouched).
use Rattle.std.specs.Prelude.{ℕ, ◌/◌, ◌≡◌, List, length, take, drop}
use Rattle.index.specs.declared.line.Line.{Line}
use Rattle.index.specs.Walk.{walked}
use Rattle.standing.specs.Tables.{room_of, rows_of}
use Rattle.walk.specs.Tables.{answer_of, walk_of}
use Rattle.walk_numbers.specs.Numbers.{lines_of, seven_of, walk_numbers}
use Rattle.publish.specs.Values.{licensed}
use Rattle.publish.specs.Copy.{copy_of}
use Rattle.publish.specs.End.{copy_end}
use Rattle.writer.specs.Write.{write_of}
use Rattle.writer.specs.End.{write_end}
use Rattle.inventory.specs.Inventory.{inventory_of}
use Rattle.inventory.specs.End.{inventory_end}
use Rattle.lists.specs.Lists.{list_told, list_numbers, read_of}

-- lent memory keeps its length, and past the first n it is what it was
abbrev pub Leaves : {A : Type 0} → ℕ → List A → List A → Type 0
Leaves n before after = (length after ≡ length before) × (drop n after ≡ drop n before)

-- a lent table holds these, one after the other, and behind them what it held
abbrev pub Holds : {A : Type 0} → List A → List A → List A → Type 0
Holds new before after = (take (length new) after ≡ new) × Leaves (length new) before after

-- the walk stores all that is told before its end, refused or clean, and counts it
abbrev pub WalkStores : Type 0
WalkStores =
    (file rows : List ℕ) (lines : List Line)
    → let told = walked (room_of (length rows) (length lines)) file in
    let lent = walk_of file rows lines in
    Holds (rows_of told.sections) rows lent.rows × Holds told.lines lines lent.lines
    × (lent.answer ≡ answer_of told)

-- so does the walk in numbers, which the C face and the command run
abbrev pub NumbersStore : Type 0
NumbersStore =
    (file rows lines : List ℕ)
    → let told = walked (room_of (length rows) (length lines / 15)) file in
    let lent = walk_numbers file rows lines in
    Holds (rows_of told.sections) rows lent.rows
    × Holds (lines_of told.lines) lines lent.lines
    × (lent.answer ≡ seven_of (answer_of told))

-- the reader of a list stores every entry that it reads before its end, and counts them
abbrev pub ListStores : Type 0
ListStores =
    (text table : List ℕ)
    → let told = list_told (length table / 13) text in
    let lent = read_of text table in
    Holds (list_numbers told.entries) table lent.table
    × (lent.answer.entries ≡ length told.entries)
    × (lent.answer.end ≡ told.end)

-- a refused copy writes nothing; else nothing past what the answer counts
abbrev pub CopyLeaves : Type 0
CopyLeaves =
    (file dest : List ℕ)
    → let copied = copy_of licensed file dest in
    Leaves (copy_end copied.answer).written dest copied.dest

-- so does a refused message
abbrev pub WriteLeaves : Type 0
WriteLeaves =
    (discipline reserved₁ reserved₂ : ℕ) (plan store dest : List ℕ)
    → let wrote = write_of discipline reserved₁ reserved₂ plan store dest in
    Leaves (write_end wrote.answer).written dest wrote.dest

-- so does a refused inventory
abbrev pub InventoryLeaves : Type 0
InventoryLeaves =
    (file text : List ℕ)
    → let wrote = inventory_of file text in
    Leaves (inventory_end wrote.answer).written text wrote.text

-- all three
pub record NothingElseIsWritten : Type 0 where
  pub copy_leaves : CopyLeaves
  pub write_leaves : WriteLeaves
  pub inventory_leaves : InventoryLeaves
