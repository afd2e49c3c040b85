-- That reading equals the crate's: the search in blocks, one section, the stream of sections, the streams of submessages, tables,
-- overflows, a whole file in the crate's words, its lines pinned, and back; then the statements of specs/Equal.antt and
-- specs/Overflow.antt. `Answers` has answers of the crate itself, by computing.
pub mod Decide
pub mod Words
pub mod Search
pub mod OneSection
pub mod Stream
pub mod Submessages
pub mod Tables
pub mod DownItsListing
pub mod Whole
pub mod JustHeld
pub mod Back
pub mod Equal
pub mod Overflow
pub mod Answers
