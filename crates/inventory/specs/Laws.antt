-- What the inventory says of a file, pinned to the file and to its walk (02, Ticket 1). The
-- statements are proved in proofs/, under their names in small letters.
use Rattle.std.specs.Prelude.{ℕ, ◌+◌, ◌-◌, ◌≤◌, ◌≡◌, List, [], ◌∷◌, get_or, take, drop}
use Rattle.products.specs.Products.{category_of, parameter_of, forecast_of, fixed_of}
use Rattle.products.specs.declared.templates.TemplateReading.TheVariants.{ByManual}
use Rattle.framing.specs.declared.read.Section.{Section}
use Rattle.index.specs.Bounds.{unlimited}
use Rattle.index.specs.Walk.{walked}
use Rattle.index.specs.Pins.{Every, told_at, ToldAt}
use Rattle.index.specs.declared.line.Line.{Line}
use Rattle.entries.specs.Entries.{text_of}
use Rattle.entries.specs.Form.{InBounds, Reads}
use Rattle.entries.specs.declared.Entry.{Entry}
use Rattle.inventory.specs.Inventory.{first_surface, entries_of}

-- the octets behind a section's header
abbrev pub behind_header : List ℕ → Section → List ℕ
behind_header file s = take (s.length - 5) (drop (s.offset.0 + 5) file)

-- an entry of a line: its numbers and its offset are the line's; a section 0 stands at its place
-- there, and says the discipline by its octet 7; a section 4 stands at its place, and its payload
-- says the rest, by the Manual
pub record PinnedEntry (file : List ℕ) (told : List Section) (line : Line) (e : Entry)
    : Type 0 where
  pub zeroth : ToldAt told 0 line.indicator.0
  pub fourth : ToldAt told 4 line.product.0
  pub message : e.message ≡ line.message
  pub submessage : e.submessage ≡ line.submessage
  pub offset : e.offset ≡ line.span.offset
  pub there : e.offset ≡ (told_at told line.indicator.0).offset
  pub discipline : e.discipline ≡ get_or file (e.offset.0 + 6) 0
  pub category : e.category ≡ category_of (behind_header file (told_at told line.product.0))
  pub number : e.number ≡ parameter_of (behind_header file (told_at told line.product.0))
  pub time :
      e.time ≡ forecast_of ByManual (behind_header file (told_at told line.product.0))
  pub surface :
      e.surface
      ≡ first_surface (fixed_of ByManual (behind_header file (told_at told line.product.0)))

-- it is so of each two at one place of two lists, which are equally long
abbrev pub EachTwo : {A B : Type 0} → (A → B → Type 0) → List A → List B → Type 0
EachTwo So [] [] = Unit
EachTwo So [] (b ∷ more) = ⊥
EachTwo So (a ∷ more) [] = ⊥
EachTwo So (a ∷ more) (b ∷ others) = So a b × EachTwo So more others

-- a walk's lines have one entry each, in their order
abbrev pub EachLineHasItsEntry : Type 0
EachLineHasItsEntry =
    (file : List ℕ)
    → let told = walked unlimited file in
    EachTwo (PinnedEntry file told.sections) told.lines (entries_of file)

-- a file of octets has entries within their bounds, so that its inventory is in this form and says
-- them
abbrev pub InventorySaysItsEntries : Type 0
InventorySaysItsEntries =
    (file : List ℕ) → Every (λ octet. octet ≤ 255) file
    → Every InBounds (entries_of file) × Reads (text_of (entries_of file)) (entries_of file) []
