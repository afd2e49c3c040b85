-- `judge_read` meets its contract: between messages nothing is asked. Else in each arm the order is the arm's, and the answer is what the
-- callee ensures; in the last arm a submessage starts, since a message is open.
use mathlib.Core.Bool.{false, true≢false}
use mathlib.Core.Path.{◌≡◌, refl, sym, ◌∙◌}
use Prim.Native.Nat.{ℕ}
use Rattle.order.specs.Order.{at_submessage_start, judged, is_between, judged_read}
use Rattle.order.specs.declared.Order.{Order}
use Rattle.order.specs.declared.Order.TheVariants as orders
use Rattle.order.proofs.judge_read.Goals as goal

-- the order of the last arm is none of the arms before it
starts : (order : Order) (number : ℕ) → is_between order ≡ false
    → (order ≡ orders.AfterIndicator → ⊥)
    → (order ≡ orders.AfterIdentification → ⊥)
    → (order ≡ orders.AfterLocalUse → ⊥)
    → (order ≡ orders.AfterGrid → ⊥)
    → (order ≡ orders.AfterProduct → ⊥)
    → (order ≡ orders.AfterRepresentation → ⊥)
    → (order ≡ orders.AfterBitMap → ⊥)
    → (order ≡ orders.AfterData → ⊥)
    → at_submessage_start number ≡ judged_read order number
unfolding is_between judged_read judged
starts orders.BetweenMessages number inside _ _ _ _ _ _ _ _ = absurd (true≢false inside)
starts orders.AfterIndicator number inside never _ _ _ _ _ _ _ = absurd (never refl)
starts orders.AfterIdentification number inside _ never _ _ _ _ _ _ = absurd (never refl)
starts orders.AfterLocalUse number inside _ _ never _ _ _ _ _ = absurd (never refl)
starts orders.AfterGrid number inside _ _ _ never _ _ _ _ = absurd (never refl)
starts orders.AfterProduct number inside _ _ _ _ never _ _ _ = absurd (never refl)
starts orders.AfterRepresentation number inside _ _ _ _ _ never _ _ = absurd (never refl)
starts orders.AfterBitMap number inside _ _ _ _ _ _ never _ = absurd (never refl)
starts orders.AfterData number inside _ _ _ _ _ _ _ never = absurd (never refl)
starts orders.SubmessageStart number inside _ _ _ _ _ _ _ _ = refl

pub returns-then-between_messages : goal.returns-then-between_messages
unfolding judged_read judged is_between
returns-then-between_messages c = rw (sym c.between_messages.ensures ∙ c.if-between_messages.true)

pub returns-in-AfterIndicator : goal.returns-in-AfterIndicator
unfolding judged_read judged is_between
returns-in-AfterIndicator c = c.only.ensures ∙ rw c.in-AfterIndicator.is

pub returns-in-AfterIdentification : goal.returns-in-AfterIdentification
unfolding judged_read judged is_between
returns-in-AfterIdentification c = c.after_identification.ensures ∙ rw c.in-AfterIdentification.is

pub returns-in-AfterLocalUse : goal.returns-in-AfterLocalUse
unfolding judged_read judged is_between
returns-in-AfterLocalUse c = c.only-in-AfterLocalUse.ensures ∙ rw c.in-AfterLocalUse.is

pub returns-in-AfterGrid : goal.returns-in-AfterGrid
unfolding judged_read judged is_between
returns-in-AfterGrid c = c.only-in-AfterGrid.ensures ∙ rw c.in-AfterGrid.is

pub returns-in-AfterProduct : goal.returns-in-AfterProduct
unfolding judged_read judged is_between
returns-in-AfterProduct c = c.only-in-AfterProduct.ensures ∙ rw c.in-AfterProduct.is

pub returns-in-AfterRepresentation : goal.returns-in-AfterRepresentation
unfolding judged_read judged is_between
returns-in-AfterRepresentation c = c.only-in-AfterRepresentation.ensures ∙ rw c.in-AfterRepresentation.is

pub returns-in-AfterBitMap : goal.returns-in-AfterBitMap
unfolding judged_read judged is_between
returns-in-AfterBitMap c = c.only-in-AfterBitMap.ensures ∙ rw c.in-AfterBitMap.is

pub returns-in-AfterData : goal.returns-in-AfterData
unfolding judged_read judged is_between
returns-in-AfterData c = c.after_data.ensures ∙ rw c.in-AfterData.is

pub returns-in_default : goal.returns-in_default
unfolding judged_read judged is_between
returns-in_default c =
    c.at_submessage_start.ensures
    ∙ starts c.args.order c.args.number (sym c.between_messages.ensures ∙ c.if-between_messages.false)
    c.in_default.not-AfterIndicator
    c.in_default.not-AfterIdentification
    c.in_default.not-AfterLocalUse
    c.in_default.not-AfterGrid
    c.in_default.not-AfterProduct
    c.in_default.not-AfterRepresentation
    c.in_default.not-AfterBitMap
    c.in_default.not-AfterData
