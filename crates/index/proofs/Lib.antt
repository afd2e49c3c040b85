-- `Judgements` has 01's order of refusals after a good read, as laws of the definition of a walk.
-- The others prove specs/Pins.antt: `Rows` that rows begin the listing, or are all of it; `Pins` that lines are pinned, by what is told at places
-- (`Counted`), what the order tells at a stand (`Fitting`) and what is in force there (`InForce`); `OneLine` that this leaves no choice.
pub mod Judgements
pub mod Rows
pub mod Counted
pub mod Fitting
pub mod InForce
pub mod Pins
pub mod OneLine
pub mod Linked
