-- One read, one judgement, and a bare list of section numbers, each in numbers and exactly when its
-- rows say so (01, "Framing", "Order", "Refusal numbers").
use Rattle.std.specs.Prelude.{ℕ, ◌+◌, ◌-◌, ◌≡◌, List, [], ◌∷◌, ◌++◌, length, get_or, Result, Ok, Err, ⊤}
use Rattle.octets.specs.Words.{Not, Iff}
use Rattle.framing.specs.Framing.{read_at}
use Rattle.framing.specs.LaidOut.{section_of}
use Rattle.framing.specs.Read.{Read}
use Rattle.framing.specs.Read as read
use Rattle.order.specs.Order.{judged, order_of}
use Rattle.order.specs.declared.Order.{Order}
use Rattle.order.specs.declared.Order.TheVariants.{BetweenMessages}
use Rattle.order.specs.declared.Judged.{Judged}
use Rattle.order.specs.declared.Judged.TheVariants as judged
use Rattle.index.specs.Numbers.{fault_number, fault_detail}
use Rattle.walk_laws.specs.ExactlyWhen.{
  NoneInHand,
  CannotBeRead,
  WellRead,
  CanCome,
  NoGridYet,
  ClosesMessage,
  order_after,
}
use Rattle.order.specs.declared.Disorder.TheVariants.{InputOver, Misplaced, NoGrid}
use Rattle.order.specs.declared.Disorder.{Disorder}

-- a read: a section's number, offset and length, where the next read is made and with how many
-- octets of the message to come; the input over; or a refusal's number, offset and detail
pub data ReadNumbers : Type 0 where
  a_section : ℕ → ℕ → ℕ → ℕ → ℕ → ReadNumbers
  no_input : ReadNumbers
  refused_by : ℕ → ℕ → ℕ → ReadNumbers

unfoldable pub read_numbers : Read → ReadNumbers
read_numbers (read.Section s next) =
    a_section s.number s.offset.0 s.length next.at.0 next.rest
read_numbers read.Over = no_input
read_numbers (read.Refused fault offset) =
    refused_by (fault_number fault) offset.0 (fault_detail fault)

-- it is that of a place with so many octets of the message to come, by the rows
pub record ReadByRows (file : List ℕ) (at rest : ℕ) (as_read : ReadNumbers) : Type 0 where
  pub refuses : (n offset d : ℕ)
      → Iff (as_read ≡ refused_by n offset d) (CannotBeRead file at rest n offset d)
  pub reads : (number offset octets next rest' : ℕ)
      → Iff (as_read ≡ a_section number offset octets next rest')
      (WellRead file at rest (section_of number offset octets) rest' × (next ≡ offset + octets))
  pub ends : Iff (as_read ≡ no_input) (NoneInHand file at rest)

-- a judgement: the section fits, and this is then what was read last; it closes its message; or it
-- is refused by a number
pub data JudgedNumbers : Type 0 where
  fits_before : Order → JudgedNumbers
  closes_it : JudgedNumbers
  misfits : ℕ → JudgedNumbers

unfoldable pub judged_numbers : Judged → JudgedNumbers
judged_numbers (judged.Fits next) = fits_before next
judged_numbers judged.Closes = closes_it
judged_numbers judged.Misplaced = misfits 11
judged_numbers judged.NoGrid = misfits 12

-- it is that of a number after what was read last, by the rows
pub record JudgedByRows (order : Order) (number : ℕ) (as_judged : JudgedNumbers) : Type 0 where
  pub fits : (next : Order)
      → Iff (as_judged ≡ fits_before next)
      (CanCome order number × Not (ClosesMessage order number) × (next ≡ order_after number))
  pub closes : Iff (as_judged ≡ closes_it) (ClosesMessage order number)
  pub misplaced : Iff (as_judged ≡ misfits 11)
      (Not (CanCome order number) × Not (NoGridYet order number))
  pub no_grid : Iff (as_judged ≡ misfits 12) (NoGridYet order number)

-- a bare list of numbers: outcome, place and detail
pub record OrderEnd : Type 0 where
  pub outcome : ℕ
  pub place : ℕ
  pub detail : ℕ

abbrev pub order_end : ℕ → ℕ → ℕ → OrderEnd
order_end outcome place detail = record { outcome = outcome; place = place; detail = detail }

-- 0 with zeros; 10 has the place of the last number; 11 and 12 that of the misfit, and the number
unfoldable pub order_end_of : List ℕ → Result ⊤ Disorder → OrderEnd
order_end_of numbers (Ok tt) = order_end 0 0 0
order_end_of numbers (Err InputOver) = order_end 10 (length numbers - 1) 0
order_end_of numbers (Err (Misplaced at)) = order_end 11 at.0 (get_or numbers at.0 0)
order_end_of numbers (Err (NoGrid at)) = order_end 12 at.0 (get_or numbers at.0 0)

-- each number can come after those before it, and this is then what was read last
pub data ComeInOrder : List ℕ → Order → Type 0 where
  no_number : ComeInOrder [] BetweenMessages
  one_more : {before : List ℕ} {order : Order} (number : ℕ)
      → ComeInOrder before order → CanCome order number
      → ComeInOrder (before ++ (number ∷ [])) (order_after number)

-- the first that cannot come after those before it is refused; where none is, the list ends between
-- messages, or it is over too soon
pub data OrderGiven : List ℕ → ℕ → ℕ → ℕ → Type 0 where
  in_order : {numbers : List ℕ} → ComeInOrder numbers BetweenMessages → OrderGiven numbers 0 0 0
  over_inside : {numbers : List ℕ} {order : Order} {last : ℕ} → ComeInOrder numbers order
      → Not (order ≡ BetweenMessages)
      → length numbers ≡ last + 1
      → OrderGiven numbers 10 last 0
  misplaced_there : (before after : List ℕ) (number : ℕ) {order : Order} → ComeInOrder before order
      → Not (CanCome order number)
      → Not (NoGridYet order number)
      → OrderGiven (before ++ (number ∷ after)) 11 (length before) number
  no_grid_there : (before after : List ℕ) (number : ℕ) {order : Order} → ComeInOrder before order
      → NoGridYet order number
      → OrderGiven (before ++ (number ∷ after)) 12 (length before) number

-- One read, one judgement, one bare list: exactly when.
pub record OneStepExactlyWhen : Type 0 where
  pub one_read : (file : List ℕ) (at rest : ℕ)
      → ReadByRows file at rest (read_numbers (read_at file at rest))
  pub one_judgement : (order : Order) (number : ℕ)
      → JudgedByRows order number (judged_numbers (judged order number))
  pub one_order : (numbers : List ℕ) (n p d : ℕ)
      → Iff (order_end_of numbers (order_of numbers) ≡ order_end n p d) (OrderGiven numbers n p d)
