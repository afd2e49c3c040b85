-- Machinery: what the private functions write into the text.
use Rattle.std.specs.Prelude.{ℕ, ◌+◌, ◌≤◌, ◌≡◌, List, [], ◌∷◌, ◌++◌, length, take, drop, Ok}
use Rattle.sections.specs.Indicator.{indicator_of}
use Rattle.products.specs.Products.{product_of}
use Rattle.products.specs.declared.templates.TemplateReading.TheVariants.{ByManual}
use Rattle.index.specs.Bounds.{unlimited}
use Rattle.index.specs.Walk.{walked}
use Rattle.index.specs.Decoded.{of_indicator, own_octets, payload_of}
use Rattle.entries.specs.Entries.{text_of, most_line}
use Rattle.entries.specs.declared.Entry.{Entry}
use Rattle.inventory.specs.Inventory.{for_each, indicator_in, entries_of}
use Rattle.inventory.specs.Memory.{entry_in}
use Rattle.inventory.specs.declared.turn.Due.{Due}
use Rattle.inventory.specs.declared.turn.Due.TheVariants.{NoLine, Line, LastLine}
use Rattle.inventory.specs.declared.memory.Memory.{Memory}
use Rattle.inventory.specs.declared.lines.Listing.{Listing}

-- octets put into a text at a place
unfoldable pub put_in_text : List ℕ → ℕ → List ℕ → List ℕ
put_in_text text at octets = take at text ++ (octets ++ drop (at + length octets) text)

-- the entry of what is remembered
unfoldable pub entries_in : List ℕ → Memory → List Entry
entries_in file m =
    for_each (indicator_in (of_indicator (indicator_of (own_octets file m.zeroth)))) λ indicator.
    entry_in m indicator (product_of ByManual (payload_of file m.fourth)) ∷ []

-- the entry that is due
unfoldable pub due_entries : List ℕ → Memory → Due → List Entry
due_entries file m NoLine = []
due_entries file m Line = entries_in file m
due_entries file m LastLine = entries_in file m

-- a short text is measured, and put behind so many octets if it fits
pub record PutText (written : List ℕ) (at : ℕ) (before after : List ℕ) (end : ℕ) : Type 0 where
  pub same_length : length after ≡ length before
  pub short : length written ≤ most_line
  pub measured : end ≡ at + length written
  pub put : end ≤ length before → after ≡ put_in_text before at written

-- of a file that walks clean all lines are measured, and put if they fit
pub record PutLines (file before after : List ℕ) (told : Listing) : Type 0 where
  pub same_length : length after ≡ length before
  pub ends : told.outcome ≡ (walked unlimited file).outcome
  pub measured : told.outcome ≡ Ok tt → told.octets ≡ length (text_of (entries_of file))
  pub put : told.outcome ≡ Ok tt → told.octets ≤ length before
      → after ≡ put_in_text before 0 (text_of (entries_of file))
