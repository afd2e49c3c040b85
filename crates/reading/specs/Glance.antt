-- Machinery: a section with a header that fits and is whole, seen at a glance.
use Rattle.std.specs.Prelude.{ℕ, ◌-◌, ◌≤◌, Bool, true, ◌≡◌, List, eqb, Option, Some, None}
use Rattle.octets.specs.Words.{pick}
use Rattle.sections.specs.Kinds as kinds
use Rattle.sections.specs.Kinds.{least_payload_of}
use Rattle.framing.specs.Framing.{section_at, payload_at, read_at}
use Rattle.framing.specs.declared.read.Section.{Section}
use Rattle.framing.specs.declared.read.Cursor.{Cursor}
use Rattle.framing.specs.Read as read
use Rattle.order.specs.Order.{judged_read}
use Rattle.order.specs.declared.Order.{Order}
use Rattle.order.specs.declared.Order.TheVariants.{
  AfterIndicator,
  AfterIdentification,
  AfterLocalUse,
  AfterGrid,
  AfterProduct,
  AfterRepresentation,
  AfterBitMap,
  AfterData,
}
use Rattle.order.specs.declared.Judged.TheVariants.{Fits, Closes}

-- what was read last, after a section of this number
unfoldable pub last_read : ℕ → Order
last_read number =
    pick (eqb number (kinds.indicator).number) AfterIndicator
    (pick (eqb number (kinds.identification).number) AfterIdentification
    (pick (eqb number (kinds.local_use).number) AfterLocalUse
    (pick (eqb number (kinds.grid_definition).number) AfterGrid
    (pick (eqb number (kinds.prod_definition).number) AfterProduct
    (pick (eqb number (kinds.repr_definition).number) AfterRepresentation
    (pick (eqb number (kinds.bit_map).number) AfterBitMap AfterData))))))

-- of a section with this header nothing is refused, if its message has room for it
unfoldable pub WholeAhead : ℕ → ℕ → ℕ → Bool → Type 0
WholeAhead number len left answer =
    answer ≡ true
    → (kinds.header_size ≤ len)
    × ((at rest : ℕ)
    → len ≤ rest
    → payload_at (least_payload_of number) at number len left rest
    ≡ section_at number at len (rest - len))

-- a section of this number fits the order
pub record Fitting (order : Order) (number : ℕ) : Type 0 where
  pub fits : judged_read order number ≡ Fits (last_read number)

unfoldable pub Usual : Order → ℕ → Bool → Type 0
Usual order number answer = answer ≡ true → Fitting order number

-- a section is read at the cursor, with the next read at `next`
abbrev pub ReadAs : List ℕ → Cursor → Section → Cursor → Type 0
ReadAs file cursor s next = read_at file cursor.at.0 cursor.rest ≡ read.Section s next

-- it is passed
pub record PassingAhead
    (file : List ℕ) (cursor : Cursor) (order : Order) (s : Section) (next : Cursor) : Type 0 where
  pub reads : ReadAs file cursor s next
  pub fitting : Fitting order s.number

-- it closes its message
pub record ClosingAhead
    (file : List ℕ) (cursor : Cursor) (order : Order) (s : Section) (next : Cursor) : Type 0 where
  pub reads : ReadAs file cursor s next
  pub closes : judged_read order s.number ≡ Closes

-- what holds of a section that was seen
unfoldable pub Glanced : (Section → Cursor → Type 0) → Option (Section × Cursor) → Type 0
Glanced P (Some (s, next)) = P s next
Glanced P None = Unit
