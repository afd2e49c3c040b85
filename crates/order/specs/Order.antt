-- The order of a message's sections (01, "Order"). It knows section numbers only, no file.
use Rattle.std.specs.Prelude.{ℕ, ◌+◌, Bool, true, false, not, List, [], ◌∷◌, eqb, Result, Ok, Err, ⊤}
use Rattle.octets.specs.Words.{pick}
use Rattle.sections.specs.Kinds.{
  indicator,
  identification,
  local_use,
  grid_definition,
  prod_definition,
  repr_definition,
  bit_map,
  data_section,
  end_section,
}
use Rattle.sections.specs.declared.kinds.Kind.{Kind}
use Rattle.order.specs.declared.Order.{Order}
use Rattle.order.specs.declared.Order.TheVariants.{
  BetweenMessages,
  AfterIndicator,
  AfterIdentification,
  AfterLocalUse,
  AfterGrid,
  AfterProduct,
  AfterRepresentation,
  AfterBitMap,
  AfterData,
  SubmessageStart,
}
use Rattle.order.specs.declared.Judged.{Judged}
use Rattle.order.specs.declared.Judged.TheVariants.{Fits, Closes, Misplaced, NoGrid}
use Rattle.order.specs.declared.Disorder.TheVariants.{InputOver, Misplaced, NoGrid}
use Rattle.order.specs.declared.Disorder.{Disorder}

-- a section of the kind has the number
abbrev pub is_of : Kind → ℕ → Bool
is_of k number = eqb number k.number

-- where one number alone fits
abbrev pub only : ℕ → ℕ → Order → Judged
only number wanted then = pick (eqb number wanted) (Fits then) Misplaced

-- after 1 comes 2 or 3; a 4 right after 1 is refusal 12
abbrev pub after_identification : ℕ → Judged
after_identification number =
    pick (is_of local_use number) (Fits AfterLocalUse)
    (pick (is_of grid_definition number) (Fits AfterGrid)
    (pick (is_of prod_definition number) NoGrid Misplaced))

-- a submessage that is not its message's first starts with 2, 3 or 4
abbrev pub at_submessage_start : ℕ → Judged
at_submessage_start number =
    pick (is_of local_use number) (Fits AfterLocalUse)
    (pick (is_of grid_definition number) (Fits AfterGrid)
    (pick (is_of prod_definition number) (Fits AfterProduct) Misplaced))

-- from a message's start: 0, 1, then 2 or 3; after 2 comes 3; after 3: 4, 5, 6, 7; after 7 an 8
-- closes the message, and any other section is judged as a submessage's start
unfoldable pub judged : Order → ℕ → Judged
judged BetweenMessages number = only number indicator.number AfterIndicator
judged AfterIndicator number = only number identification.number AfterIdentification
judged AfterIdentification number = after_identification number
judged AfterLocalUse number = only number grid_definition.number AfterGrid
judged AfterGrid number = only number prod_definition.number AfterProduct
judged AfterProduct number = only number repr_definition.number AfterRepresentation
judged AfterRepresentation number = only number bit_map.number AfterBitMap
judged AfterBitMap number = only number data_section.number AfterData
judged AfterData number = pick (is_of end_section number) Closes (at_submessage_start number)
judged SubmessageStart number = at_submessage_start number

-- after 7 any section but 8 first completes the submessage
unfoldable pub completes : Order → ℕ → Bool
completes AfterData number = not (is_of end_section number)
completes BetweenMessages number = false
completes AfterIndicator number = false
completes AfterIdentification number = false
completes AfterLocalUse number = false
completes AfterGrid number = false
completes AfterProduct number = false
completes AfterRepresentation number = false
completes AfterBitMap number = false
completes SubmessageStart number = false

-- no message is open
unfoldable pub is_between : Order → Bool
is_between BetweenMessages = true
is_between AfterIndicator = false
is_between AfterIdentification = false
is_between AfterLocalUse = false
is_between AfterGrid = false
is_between AfterProduct = false
is_between AfterRepresentation = false
is_between AfterBitMap = false
is_between AfterData = false
is_between SubmessageStart = false

-- a section that was read from a file: where a message starts nothing but a section 0 can be read,
-- and nothing is asked (02, Ticket 11); inside one it is judged
unfoldable pub judged_read : Order → ℕ → Judged
judged_read order number = pick (is_between order) (Fits AfterIndicator) (judged order number)

-- a number at a place, and what the order says of those after it
abbrev pub then_judged : Judged → ℕ → (Order → Result ⊤ Disorder) → Result ⊤ Disorder
then_judged (Fits next) place later = later next
then_judged Closes place later = later BetweenMessages
then_judged Misplaced place later = Err (Misplaced (record { 0 = place }))
then_judged NoGrid place later = Err (NoGrid (record { 0 = place }))

-- a list of numbers, from a place on: the first that can't come next, else whether the list ends
-- between messages
unfoldable pub order_from : Order → ℕ → List ℕ → Result ⊤ Disorder
order_from order place [] = pick (is_between order) (Ok tt) (Err InputOver)
order_from order place (number ∷ more) =
    then_judged (judged order number) place (λ next. order_from next (place + 1) more)

-- a whole list of numbers
unfoldable pub order_of : List ℕ → Result ⊤ Disorder
order_of numbers = order_from BetweenMessages 0 numbers
