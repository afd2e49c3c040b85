-- The laws of the order of sections: what each answer says of the number and of what was read before it.
use mathlib.Core.Bool.{Bool, true, false, not}
use mathlib.Core.Path.{◌≡◌, refl, subst}
use Prim.Native.Nat.{ℕ, ◌<◌}
use native.Mathlib.Omega.{arith}
use borrow.Author.Tests.{eqb-true, eqb-false, ne_eqb}
use lib.Dec.{eqb}
use Rattle.octets.specs.Words.{pick}
use Rattle.order.specs.Order.{at_submessage_start, judged, completes, is_between, judged_read}
use Rattle.order.specs.declared.Order.{Order}
use Rattle.order.specs.declared.Order.TheVariants.{
  BetweenMessages,
  AfterIndicator,
  AfterIdentification,
  AfterLocalUse,
  AfterGrid,
  AfterProduct,
  AfterRepresentation,
  AfterBitMap,
  AfterData,
  SubmessageStart,
}
use Rattle.order.specs.declared.Judged.{Judged}
use Rattle.order.specs.declared.Judged.TheVariants.{Fits, Closes, Misplaced, NoGrid}

-- the number of a section that fits and is then what was read last; none leads between messages or to a submessage's start
abbrev pub ReachedBy : Order → ℕ → Type 0
ReachedBy BetweenMessages number = ⊥
ReachedBy AfterIndicator number = number ≡ 0
ReachedBy AfterIdentification number = number ≡ 1
ReachedBy AfterLocalUse number = number ≡ 2
ReachedBy AfterGrid number = number ≡ 3
ReachedBy AfterProduct number = number ≡ 4
ReachedBy AfterRepresentation number = number ≡ 5
ReachedBy AfterBitMap number = number ≡ 6
ReachedBy AfterData number = number ≡ 7
ReachedBy SubmessageStart number = ⊥

-- what an answer says of what was read last and of the number
abbrev Says : Order → ℕ → Judged → Type 0
Says order number (Fits next) = ReachedBy next number
Says order number Closes = (order ≡ AfterData) × (number ≡ 8)
Says order number Misplaced = Unit
Says order number NoGrid = (order ≡ AfterIdentification) × (number ≡ 4)

-- a property of a choice by a test of the number
pick_by : (P : Judged → Type 0) (number key : ℕ) (t : Bool) {here other : Judged} → eqb number key ≡ t
    → (number ≡ key → P here) → P other → P (pick t here other)
pick_by P number key true e one else = one (eqb-true number key e)
pick_by P number key false e one else = else

chosen : (P : Judged → Type 0) (number key : ℕ) {here other : Judged}
    → (number ≡ key → P here) → P other → P (pick (eqb number key) here other)
chosen P number key one else = pick_by P number key (eqb number key) refl one else

-- a submessage's start, after whatever was read last
started : (order : Order) (number : ℕ) → Says order number (at_submessage_start number)
started order number =
    chosen (Says order number) number 2 (λ e. e)
    (chosen (Says order number) number 3 (λ e. e)
    (chosen (Says order number) number 4 (λ e. e) tt))

says : (order : Order) (number : ℕ) → Says order number (judged order number)
unfolding judged
says BetweenMessages number = chosen (Says BetweenMessages number) number 0 (λ e. e) tt
says AfterIndicator number = chosen (Says AfterIndicator number) number 1 (λ e. e) tt
says AfterIdentification number =
    chosen (Says AfterIdentification number) number 2 (λ e. e)
    (chosen (Says AfterIdentification number) number 3 (λ e. e)
    (chosen (Says AfterIdentification number) number 4 (λ e. (refl, e)) tt))
says AfterLocalUse number = chosen (Says AfterLocalUse number) number 3 (λ e. e) tt
says AfterGrid number = chosen (Says AfterGrid number) number 4 (λ e. e) tt
says AfterProduct number = chosen (Says AfterProduct number) number 5 (λ e. e) tt
says AfterRepresentation number = chosen (Says AfterRepresentation number) number 6 (λ e. e) tt
says AfterBitMap number = chosen (Says AfterBitMap number) number 7 (λ e. e) tt
says AfterData number = chosen (Says AfterData number) number 8 (λ e. (refl, e)) (started AfterData number)
says SubmessageStart number = started SubmessageStart number

-- a state that a section leads to is inside a message, and the section is no 8
inside : (next : Order) (number : ℕ) → ReachedBy next number → (is_between next ≡ false) × (number < 8)
unfolding is_between
inside BetweenMessages number e = absurd e
inside AfterIndicator number e = (refl, omega arith)
inside AfterIdentification number e = (refl, omega arith)
inside AfterLocalUse number e = (refl, omega arith)
inside AfterGrid number e = (refl, omega arith)
inside AfterProduct number e = (refl, omega arith)
inside AfterRepresentation number e = (refl, omega arith)
inside AfterBitMap number e = (refl, omega arith)
inside AfterData number e = (refl, omega arith)
inside SubmessageStart number e = absurd e

-- what it says of the order that no message is open, or that one is
abbrev pub Said : Order → Bool → Type 0
Said order true = order ≡ BetweenMessages
Said order false = order ≡ BetweenMessages → ⊥

-- a constructor is no other
pub apart : {a b : Order} → (a ≡ b → ◌≡◌ {A = ℕ} 0 1) → a ≡ b → ⊥
apart clash e = let z = clash e in omega arith

pub said : (order : Order) → Said order (is_between order)
unfolding is_between
said BetweenMessages = refl
said AfterIndicator = apart (λ e. cc)
said AfterIdentification = apart (λ e. cc)
said AfterLocalUse = apart (λ e. cc)
said AfterGrid = apart (λ e. cc)
said AfterProduct = apart (λ e. cc)
said AfterRepresentation = apart (λ e. cc)
said AfterBitMap = apart (λ e. cc)
said AfterData = apart (λ e. cc)
said SubmessageStart = apart (λ e. cc)

pub is_between_lem : (order : Order) → is_between order ≡ true → order ≡ BetweenMessages
is_between_lem order e = subst (Said order) e (said order)

pub not_between : (order : Order) → (order ≡ BetweenMessages → ⊥) → is_between order ≡ false
not_between order inside = go (is_between order) (said order) refl
  where
    go : (t : Bool) → Said order t → is_between order ≡ t → is_between order ≡ false
    go true h e = absurd (inside h)
    go false h e = e

module _ (order : Order) (number : ℕ) where
  -- which number led to the next state
  pub fits_number : {next : Order} → judged order number ≡ Fits next → ReachedBy next number
  fits_number e = subst (Says order number) e (says order number)

  pub fits_below : {next : Order} → judged order number ≡ Fits next → number < 8
  fits_below {next} e = (inside next number (fits_number e)).1

  pub fits_open : {next : Order} → judged order number ≡ Fits next → is_between next ≡ false
  fits_open {next} e = (inside next number (fits_number e)).0

  -- only an 8 after 7 closes
  pub closes_only : judged order number ≡ Closes → (order ≡ AfterData) × (number ≡ 8)
  closes_only e = subst (Says order number) e (says order number)

  pub closes_there : (order ≡ AfterData) × (number ≡ 8) → judged order number ≡ Closes
  unfolding judged
  closes_there e = rw (e.0, e.1)

  -- only a 4 right after 1 has no grid
  pub no_grid_only : judged order number ≡ NoGrid → (order ≡ AfterIdentification) × (number ≡ 4)
  no_grid_only e = subst (Says order number) e (says order number)

  pub no_grid_there_lem : (order ≡ AfterIdentification) × (number ≡ 4) → judged order number ≡ NoGrid
  unfolding judged
  no_grid_there_lem e = rw (e.0, e.1)

-- what is read from a file, if that is a section 0 between messages, is judged unasked as it is judged
pub read_judged : (order : Order) (number : ℕ) → (is_between order ≡ true → number ≡ 0) → judged_read order number ≡ judged order number
unfolding judged_read judged
read_judged order number zeroth = go (is_between order) refl
  where
    go : (t : Bool) → is_between order ≡ t → pick t (Fits AfterIndicator) (judged order number) ≡ judged order number
    go true between = rw (is_between_lem order between, zeroth between)
    go false within = refl

-- only after 7, and not by an 8, is a submessage complete
abbrev Completed : Order → ℕ → Bool → Type 0
Completed order number true = (order ≡ AfterData) × (number ≡ 8 → ⊥)
Completed order number false = Unit

after_data : (number : ℕ) (t : Bool) → eqb number 8 ≡ t → Completed AfterData number (not t)
after_data number true e = tt
after_data number false e = (refl, eqb-false number 8 e)

completed : (order : Order) (number : ℕ) → Completed order number (completes order number)
unfolding completes
completed BetweenMessages number = tt
completed AfterIndicator number = tt
completed AfterIdentification number = tt
completed AfterLocalUse number = tt
completed AfterGrid number = tt
completed AfterProduct number = tt
completed AfterRepresentation number = tt
completed AfterBitMap number = tt
completed AfterData number = after_data number (eqb number 8) refl
completed SubmessageStart number = tt

pub completes_only : (order : Order) (number : ℕ) → completes order number ≡ true → (order ≡ AfterData) × (number ≡ 8 → ⊥)
completes_only order number e = subst (Completed order number) e (completed order number)

module _ (number : ℕ) (other : number ≡ 8 → ⊥) where
  pub completes_there : completes AfterData number ≡ true
  unfolding completes
  completes_there = simp (ne_eqb number 8 other)

  -- what completes a submessage is judged as the start of the next
  pub starts_next : judged AfterData number ≡ judged SubmessageStart number
  unfolding judged
  starts_next = simp (ne_eqb number 8 other)
