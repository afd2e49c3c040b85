-- What a file's index is: `Lines` a submessage's line and what is in force, `Outcome` how a
-- walk ends, `Bounds` how long a file and how large a table may be, `Walk` what a walk tells of a
-- file, `Numbers` document 01's numbers, `Decoded` the fields of its sections, `Pins` what is so of
-- every walk.
pub mod Lines
pub mod Outcome
pub mod Bounds
pub mod Walk
pub mod Numbers
pub mod Decoded
pub mod Pins
