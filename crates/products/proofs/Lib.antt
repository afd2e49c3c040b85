-- `EachEntry` has what one test says of every entry of a list, `Ranges` what a table of ranges says of
-- a whole interval, `Rows` that the table of offsets says what the ranges say, `Readings` where the
-- two readings differ and agree, `OneCall` what the one call for time and surfaces answers,
-- `Indices` what stands at an index of a template, `Within` how large the numbers are that octets
-- say.
pub mod EachEntry
pub mod Ranges
pub mod Rows
pub mod Readings
pub mod OneCall
pub mod Indices
pub mod Within
pub mod Linked
