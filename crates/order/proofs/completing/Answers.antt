-- `completing` meets its contract: after 7 the test decides, and elsewhere nothing is complete.
use mathlib.Core.Bool.{false}
use mathlib.Core.Path.{◌≡◌, refl}
use Prim.Native.Nat.{ℕ}
use Rattle.order.specs.Order.{completes}
use Rattle.order.specs.declared.Order.{Order}
use Rattle.order.specs.declared.Order.TheVariants as orders
use Rattle.order.proofs.completing.Goals as goal

elsewhere : (order : Order) (number : ℕ) → (order ≡ orders.AfterData → ⊥) → false ≡ completes order number
unfolding completes
elsewhere orders.BetweenMessages number told = refl
elsewhere orders.AfterIndicator number told = refl
elsewhere orders.AfterIdentification number told = refl
elsewhere orders.AfterLocalUse number told = refl
elsewhere orders.AfterGrid number told = refl
elsewhere orders.AfterProduct number told = refl
elsewhere orders.AfterRepresentation number told = refl
elsewhere orders.AfterBitMap number told = refl
elsewhere orders.AfterData number told = absurd (told refl)
elsewhere orders.SubmessageStart number told = refl

pub returns-in-AfterData : goal.returns-in-AfterData
unfolding completes
returns-in-AfterData c = rw c.in-AfterData.is

pub returns-in_default : goal.returns-in_default
unfolding completes
returns-in_default c = elsewhere c.args.order c.args.number c.in_default.not-AfterData
