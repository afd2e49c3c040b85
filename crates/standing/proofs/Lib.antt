-- Machinery of both walks' proofs: what is put into a table (`Put`), the tables as they are filled, with lines of
-- any width (`Lent`), and what a section that is passed changes (`Passed`).
pub mod Put
pub mod Lent
pub mod Passed
pub mod Linked
