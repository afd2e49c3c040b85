-- Machinery of the crate's proofs: a turn of the loop with lent numbers.
pub mod InNumbers
pub mod Linked
