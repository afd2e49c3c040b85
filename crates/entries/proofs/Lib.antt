-- `Decimal` that a number has one spelling, the computed one, and a spelling one number; `Said` the same of a field; `Laws` of a text,
-- as specs/Laws.antt says. `Put` has the laws of octets put into a list from its end on, `InTurn` those of a whole line put so.
pub mod Decimal
pub mod Said
pub mod Laws
mod Put
mod InTurn
pub mod Linked
