-- The inventory of a file (02, Ticket 1): one line for each submessage, of the walk and the decoded
-- fields and of nothing else.
use Rattle.std.specs.Prelude.{ℕ, List, [], ◌∷◌, ◌++◌, ltb, length, take, drop, Option, Some, None, Result, Ok, Err}
use Rattle.octets.specs.Words.{pick}
use Rattle.sections.specs.declared.indicator.Indicator.{Indicator}
use Rattle.products.specs.declared.templates.TemplateReading.TheVariants.{ByManual}
use Rattle.index.specs.Bounds.{unlimited}
use Rattle.index.specs.Walk.{walked}
use Rattle.products.specs.declared.Product.{Product}
use Rattle.index.specs.Decoded.{
  SectionFields,
  of_indicator,
  of_identification,
  of_grid,
  of_product,
  of_representation,
  of_bit_map,
  of_none,
  decoded,
}
use Rattle.index.specs.declared.line.Line.{Line}
use Rattle.entries.specs.Entries.{text_of}
use Rattle.entries.specs.declared.Entry.{Entry}
use Rattle.products.specs.declared.FixedSurface.{FixedSurface}
use Rattle.index.specs.Outcome.{Outcome}
use Rattle.inventory.specs.declared.InventoryRefusal.TheVariants.{TextTooSmall, Walk}
use Rattle.inventory.specs.declared.InventoryRefusal.{InventoryRefusal}

-- the type of the first surface
unfoldable pub first_surface : Option (FixedSurface × FixedSurface) → Option ℕ
first_surface (Some (first, second)) = Some first.surface
first_surface None = None

-- all that a function gives for each of a list
abbrev pub for_each : {A B : Type 0} → List A → (A → List B) → List B
for_each [] f = []
for_each (a ∷ more) f = f a ++ for_each more f

-- what stands at a place of a list: one, or none behind its end
abbrev pub stands_at : {A : Type 0} → ℕ → List A → List A
stands_at place list = take 1 (drop place list)

-- what a section says as a section 0: one, or none if it is another
abbrev fields_in : Option Indicator → List Indicator
fields_in (Some indicator) = indicator ∷ []
fields_in None = []

unfoldable pub indicator_in : SectionFields → List Indicator
indicator_in (of_indicator fields) = fields_in fields
indicator_in (of_identification fields) = []
indicator_in (of_grid fields) = []
indicator_in (of_product fields) = []
indicator_in (of_representation fields) = []
indicator_in (of_bit_map fields) = []
indicator_in of_none = []

-- and as a section 4, by the Manual (02, Ticket 6)
unfoldable pub product_in : SectionFields → List Product
product_in (of_indicator fields) = []
product_in (of_identification fields) = []
product_in (of_grid fields) = []
product_in (of_product fields) = fields.product ByManual ∷ []
product_in (of_representation fields) = []
product_in (of_bit_map fields) = []
product_in of_none = []

-- an entry: a submessage's numbers, its message's offset and section 0, the product of its section 4
abbrev pub entry_with : Line → Indicator → Product → Entry
entry_with line indicator product =
    record {
      message = line.message;
      submessage = line.submessage;
      offset = line.span.offset;
      discipline = indicator.discipline;
      category = product.category;
      number = product.number;
      time = product.time;
      surface = first_surface product.surfaces;
    }

-- the entry of a line: its sections 0 and 4 stand at its places. No walk has others there, so that
-- there is one entry for each line (`EachLineHasItsEntry`)
unfoldable pub entry_at : List SectionFields → Line → List Entry
entry_at fields line =
    for_each (for_each (stands_at line.indicator.0 fields) indicator_in) λ indicator.
    for_each (for_each (stands_at line.product.0 fields) product_in) λ product.
    entry_with line indicator product ∷ []

-- one line for each submessage of the walk, which needs no table
unfoldable pub entries_of : List ℕ → List Entry
entries_of file =
    let told = walked unlimited file in
    for_each told.lines (entry_at (decoded file told.sections))

-- an answer, and the whole buffer
pub record TextWritten : Type 0 where
  pub answer : Result ℕ InventoryRefusal
  pub text : List ℕ

-- 20 where the text is longer than the buffer, else the text
unfoldable pub text_into : List ℕ → List ℕ → TextWritten
text_into written text =
    pick (ltb (length text) (length written))
    (record { answer = Err TextTooSmall; text = text })
    (record {
      answer = Ok (length written);
      text = written ++ drop (length written) text;
    })

-- the walk's own refusals, then 20; on any nothing is written
unfoldable pub inventory_by : Outcome → List Entry → List ℕ → TextWritten
inventory_by (Ok tt) entries text = text_into (text_of entries) text
inventory_by (Err stop) entries text =
    record { answer = Err (Walk stop); text = text }

unfoldable pub inventory_of : List ℕ → List ℕ → TextWritten
inventory_of file text = inventory_by (walked unlimited file).outcome (entries_of file) text
