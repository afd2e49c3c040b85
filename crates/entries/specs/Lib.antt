-- An entry of the inventory and its text: `Decimal` how a number is spelled, `Entries` an entry's
-- line, `Form` what it is to be in this form, `Laws` that a list has one text and a text one list,
-- `Put` what it is to store from the end on.
pub mod Decimal
pub mod Entries
pub mod Form
pub mod Laws
pub mod Put
