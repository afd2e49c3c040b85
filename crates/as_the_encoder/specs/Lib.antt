-- `Encoder`: the crate's writer, function by function. `Writes`: that ours writes the same.
pub mod Encoder
pub mod Writes
