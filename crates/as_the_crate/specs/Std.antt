-- What reader.rs and parser.rs of grib 0.20.2 take from Rust and from the rest of the crate:
-- results, usize with overflow checks on, the in-memory cursor, its errors and its SectionInfo.
use Rattle.std.specs.Prelude.{ℕ, ◌+◌, ◌-◌, List, ltb, length}
use Rattle.octets.specs.Words.{pick}

-- error.rs, enum ParseError: the errors that reading can meet. SectionSizeTooSmall is a BuildError,
-- which `?` makes a ParseError
pub data ParseError : Type 0 where
  ReadError : ParseError
  GRIBVersionMismatch : ℕ → ParseError
  UnknownSectionNumber : ℕ → ParseError
  EndSectionMismatch : ParseError
  SectionSizeTooSmall : ℕ → ParseError
  UnexpectedEndOfData : ℕ → ParseError
  InvalidSectionOrder : ℕ → ParseError
  NoGridDefinition : ℕ → ParseError

-- what the Rust has in hand at an error and drops: where it began on the section, and the section's
-- number once it is read
pub record Dropped : Type 0 where
  pub began : ℕ
  pub number : ℕ

-- what a Rust function answers: Ok(..) or Some(Ok(..)); Ok(None) or None; Err(..) or Some(Err(..));
-- or it panics at an overflow. `never` is no answer of the Rust's: a loop had too few turns here,
-- or an `unreachable!()` was met. No file comes to it (Equal.antt)
pub data Result (A : Type 0) : Type 0 where
  gives : A → Result A
  none : Result A
  errs : ParseError → Dropped → Result A
  overflows : Result A
  never : Result A

-- an error of a function that knows of no section: the zeros say nothing until `begun`
abbrev pub err : {A : Type 0} → ParseError → Result A
err e = errs e (record { began = 0; number = 0 })

-- the section in hand was begun at this place
abbrev pub begun : {A : Type 0} → ℕ → Result A → Result A
begun at (gives a) = gives a
begun at none = none
begun at (errs e dropped) = errs e (record { began = at; number = 0 })
begun at overflows = overflows
begun at never = never

-- Rust's `?`, and its `match` where None and errors are handed on
abbrev pub try : {A B : Type 0} → Result A → (A → Result B) → Result B
try (gives a) more = more a
try none more = none
try (errs e dropped) more = errs e dropped
try overflows more = overflows
try never more = never

-- a - b in usize
abbrev pub minus : {A : Type 0} → ℕ → ℕ → (ℕ → Result A) → Result A
minus a b more = pick (ltb a b) overflows (more (a - b))

-- a + b in usize
abbrev pub plus : {A : Type 0} → ℕ → ℕ → (ℕ → Result A) → Result A
plus a b more = pick (ltb (a + b) 18446744073709551616) (more (a + b)) overflows

-- std Cursor::read into a buffer of so many octets, at a place that may lie past the end of file:
-- how many octets are read
unfoldable pub Cursor-read : List ℕ → ℕ → ℕ → ℕ
Cursor-read file at room = pick (ltb (length file - at) room) (length file - at) room

-- std Cursor::read_exact: the place behind so many octets, or "failed to fill whole buffer"
unfoldable pub Cursor-read_exact : List ℕ → ℕ → ℕ → Result ℕ
Cursor-read_exact file at size =
    pick (ltb (length file - at) size) (err ReadError) (gives (at + size))

-- std Cursor::seek(SeekFrom::Current(forward - back)): within u64, whatever the file's length
unfoldable pub Cursor-seek : ℕ → ℕ → ℕ → Result ℕ
Cursor-seek at forward back =
    pick (ltb (at + forward) back) (err ReadError)
    (pick (ltb (at + forward - back) 18446744073709551616) (gives (at + forward - back))
    (err ReadError))

-- context.rs, struct SectionInfo, without its body
pub record SectionInfo : Type 0 where
  pub num : ℕ
  pub offset : ℕ
  pub size : ℕ

abbrev pub info : ℕ → ℕ → ℕ → SectionInfo
info num offset size = record { num = num; offset = offset; size = size }
