-- `is_usual` meets its contract: in each arm the order is the arm's.
use mathlib.Core.Path.{refl}
use Rattle.order.specs.Order.{judged, is_between, judged_read}
use Rattle.order.specs.declared.Order.TheVariants.{
  BetweenMessages,
  AfterIndicator,
  AfterLocalUse,
  AfterGrid,
  AfterProduct,
  AfterRepresentation,
  AfterBitMap,
  AfterData,
  SubmessageStart,
}
use Rattle.reading.specs.Glance.{last_read}
use Rattle.reading.proofs.Fitting.{by_key, never}
use Rattle.reading.proofs.quick.is_usual.Goals as goal

pub returns-in-BetweenMessages : goal.returns-in-BetweenMessages
unfolding judged_read judged is_between last_read
returns-in-BetweenMessages c = rw c.in-BetweenMessages.is (never BetweenMessages _)

pub returns-in-AfterIndicator : goal.returns-in-AfterIndicator
unfolding judged_read judged is_between last_read
returns-in-AfterIndicator c = rw c.in-AfterIndicator.is (by_key AfterIndicator _ 1 refl)

pub returns-in-AfterIdentification : goal.returns-in-AfterIdentification
unfolding judged_read judged is_between last_read
returns-in-AfterIdentification c = rw c.in-AfterIdentification.is c.is_local_or_grid.ensures

pub returns-in-AfterLocalUse : goal.returns-in-AfterLocalUse
unfolding judged_read judged is_between last_read
returns-in-AfterLocalUse c = rw c.in-AfterLocalUse.is (by_key AfterLocalUse _ 3 refl)

pub returns-in-AfterGrid : goal.returns-in-AfterGrid
unfolding judged_read judged is_between last_read
returns-in-AfterGrid c = rw c.in-AfterGrid.is (by_key AfterGrid _ 4 refl)

pub returns-in-AfterProduct : goal.returns-in-AfterProduct
unfolding judged_read judged is_between last_read
returns-in-AfterProduct c = rw c.in-AfterProduct.is (by_key AfterProduct _ 5 refl)

pub returns-in-AfterRepresentation : goal.returns-in-AfterRepresentation
unfolding judged_read judged is_between last_read
returns-in-AfterRepresentation c = rw c.in-AfterRepresentation.is (by_key AfterRepresentation _ 6 refl)

pub returns-in-AfterBitMap : goal.returns-in-AfterBitMap
unfolding judged_read judged is_between last_read
returns-in-AfterBitMap c = rw c.in-AfterBitMap.is (by_key AfterBitMap _ 7 refl)

pub returns-in-AfterData : goal.returns-in-AfterData
unfolding judged_read judged is_between last_read
returns-in-AfterData c = rw c.in-AfterData.is (never AfterData _)

pub returns-in-SubmessageStart : goal.returns-in-SubmessageStart
unfolding judged_read judged is_between last_read
returns-in-SubmessageStart c = rw c.in-SubmessageStart.is (never SubmessageStart _)
