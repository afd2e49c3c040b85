-- `Remembered` that what is remembered is what is in force, `Turns` of the loop, `Parts` of lists, `Answers` of a call;
-- `EachEntry` and `Said` the laws of specs/Laws.antt.
mod Parts
mod Remembered
mod Turns
mod Answers
pub mod EachEntry
pub mod Said
pub mod Linked
