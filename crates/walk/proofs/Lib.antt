-- Machinery of the crate's proofs: a turn of the loop (`Turns`), a step of several (`Steps`), and a line that is due (`Lists`).
pub mod Steps
pub mod Turns
pub mod Lists
pub mod Linked
