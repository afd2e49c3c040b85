-- What is at fault in a plan, in the words of 01's column "Given exactly when" (refusals 15 to 19).
use Rattle.std.specs.Prelude.{ℕ, ◌+◌, ◌≤◌, ◌<◌, ◌≡◌, List, [], ◌∷◌, ◌⊎◌, length, take, get_or, Some}
use Rattle.sections.specs.Kinds.{least_payload_of}
use Rattle.order.specs.Order.{judged}
use Rattle.order.specs.declared.Order.{Order}
use Rattle.order.specs.declared.Order.TheVariants.{AfterIndicator}
use Rattle.order.specs.declared.Judged.TheVariants.{Fits, Closes, Misplaced, NoGrid}
use Rattle.index.specs.Bounds.{most_octets}
use Rattle.writer.specs.Plan.{Part, most_payload, total_of}

-- the section at a place of a plan
abbrev pub part_at : List Part → ℕ → Part
part_at parts k = get_or parts k (record { number = 0; offset = 0; length = 0 })

-- the first place of a plan at which something is the case
pub record FirstAt (Faulty : Part → Type 0) (parts : List Part) (at : ℕ) : Type 0 where
  pub inside : at < length parts
  pub fault : Faulty (part_at parts at)
  pub before : (k : ℕ) → k < at → Faulty (part_at parts k) → ⊥

-- it is the case at no place
abbrev pub AtNone : (Part → Type 0) → List Part → Type 0
AtNone Faulty parts = (k : ℕ) → k < length parts → Faulty (part_at parts k) → ⊥

-- a number can't come next
abbrev pub CantCome : Order → ℕ → Type 0
CantCome order number = (judged order number ≡ Misplaced) ⊎ (judged order number ≡ NoGrid)

-- these sections can come one after the other, and this is then what was read last
pub data Reaches : Order → List Part → Order → Type 0 where
  arrived : {order : Order} → Reaches order [] order
  on : {order next last : Order} {part : Part} {more : List Part}
      → judged order part.number ≡ Fits next → Reaches next more last
      → Reaches order (part ∷ more) last

-- after what was read last, the numbers and an 8 end the message
pub record EndsAfter (order : Order) (parts : List Part) : Type 0 where
  pub last : Order
  pub ordered : Reaches order parts last
  pub closed : judged last 8 ≡ Closes

-- 16: the plan's numbers, with 0 before and 8 after, are one message
abbrev pub OneMessage : List Part → Type 0
OneMessage parts = EndsAfter AfterIndicator parts

-- a number isn't 1 to 7 or can't come next
abbrev pub Misfits : Order → ℕ → Type 0
Misfits order number = (number < 1) ⊎ ((7 < number) ⊎ CantCome order number)

-- the first place, after what was read last, whose number misfits; the plan's length if only the 8
-- does
pub record MisfitAfter (order : Order) (parts : List Part) (at : ℕ) : Type 0 where
  pub inside : at ≤ length parts
  pub last : Order
  pub before : Reaches order (take at parts) last
  pub number : at < length parts → Misfits last (part_at parts at).number
  pub only_8 : at ≡ length parts → CantCome last 8

-- the same after section 0
abbrev pub FirstMisfit : List Part → ℕ → Type 0
FirstMisfit parts at = MisfitAfter AfterIndicator parts at

-- 17: offset plus length over the store's length
abbrev pub Outside : ℕ → Part → Type 0
Outside store part = store < part.offset + part.length

-- 18: a payload under its least
pub record UnderItsLeast (part : Part) : Type 0 where
  pub least : ℕ
  pub of_kind : least_payload_of part.number ≡ Some least
  pub under : part.length < least

-- or over the most that a payload may have
abbrev pub WrongSize : Part → Type 0
WrongSize part = UnderItsLeast part ⊎ (most_payload < part.length)

-- 19: the destination is shorter than the message, or the message over 2^40 octets
abbrev pub TooLarge : List Part → ℕ → Type 0
TooLarge parts room = (room < total_of parts) ⊎ (most_octets < total_of parts)
