-- `between_messages` meets its contract: every order but the first is inside a message.
use mathlib.Core.Bool.{false}
use mathlib.Core.Path.{◌≡◌, refl}
use Rattle.order.specs.Order.{is_between}
use Rattle.order.specs.declared.Order.{Order}
use Rattle.order.specs.declared.Order.TheVariants as orders
use Rattle.order.proofs.between_messages.Goals as goal

inside : (order : Order) → (order ≡ orders.BetweenMessages → ⊥) → false ≡ is_between order
unfolding is_between
inside orders.BetweenMessages told = absurd (told refl)
inside orders.AfterIndicator told = refl
inside orders.AfterIdentification told = refl
inside orders.AfterLocalUse told = refl
inside orders.AfterGrid told = refl
inside orders.AfterProduct told = refl
inside orders.AfterRepresentation told = refl
inside orders.AfterBitMap told = refl
inside orders.AfterData told = refl
inside orders.SubmessageStart told = refl

pub returns-in-BetweenMessages : goal.returns-in-BetweenMessages
unfolding is_between
returns-in-BetweenMessages c = rw c.in-BetweenMessages.is

pub returns-in_default : goal.returns-in_default
unfolding is_between
returns-in_default c = inside c.args.order c.in_default.not-BetweenMessages
