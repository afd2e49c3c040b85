-- How the Rust crate grib 0.20.2 reads, as functions on values: `Std` what it takes from Rust,
-- `Reader` its reader.rs, `Parser` its parser.rs, to be laid beside the Rust function by function.
-- `Told` is what it tells of a file, in this library's words; `Open` says that these lose nothing of
-- its 0 for a message that goes on.
-- `Equal` says that our reading is the same, `Overflow` when the crate overflows instead.
pub mod Std
pub mod Reader
pub mod Parser
pub mod Told
pub mod Open
pub mod Equal
pub mod Overflow
