-- `fault_detail` meets its contract: case by case.
use Rattle.index.specs.Numbers.{fault_detail}
use Rattle.index.proofs.numbers.fault_detail.Goals as goal

pub returns-in-Cut : goal.returns-in-Cut
unfolding fault_detail
returns-in-Cut c = rw c.in-Cut.is

pub returns-in-OtherEdition : goal.returns-in-OtherEdition
unfolding fault_detail
returns-in-OtherEdition c = rw c.in-OtherEdition.is

pub returns-in-TotalUnder16 : goal.returns-in-TotalUnder16
unfolding fault_detail
returns-in-TotalUnder16 c = rw c.in-TotalUnder16.is

pub returns-in-NotEndMark : goal.returns-in-NotEndMark
unfolding fault_detail
returns-in-NotEndMark c = rw c.in-NotEndMark.is

pub returns-in-LengthUnder5 : goal.returns-in-LengthUnder5
unfolding fault_detail
returns-in-LengthUnder5 c = rw c.in-LengthUnder5.is

pub returns-in-UnknownNumber : goal.returns-in-UnknownNumber
unfolding fault_detail
returns-in-UnknownNumber c = rw c.in-UnknownNumber.is

pub returns-in-PayloadUnderLeast : goal.returns-in-PayloadUnderLeast
unfolding fault_detail
returns-in-PayloadUnderLeast c = rw c.in-PayloadUnderLeast.is

pub returns-in-LongerThanRest : goal.returns-in-LongerThanRest
unfolding fault_detail
returns-in-LongerThanRest c = rw c.in-LongerThanRest.is
