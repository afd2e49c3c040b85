-- `Inventory` says what the inventory of a file is and what a call answers, `End` the answer's
-- numbers, `Laws` what the inventory says of a file; `Turn`, `Memory` and `Lines` are machinery,
-- for the private functions' contracts.
pub mod Inventory
pub mod End
pub mod Laws
pub mod Turn
pub mod Memory
pub mod Lines
