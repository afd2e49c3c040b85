-- Reading equals the Rust, on every file of at most 2^40 octets on which the crate does not
-- overflow (Overflow.antt says when it does). Each statement is an equation between what a function
-- of this library is defined to give and what the crate's transcription tells.
use Rattle.std.specs.Prelude.{ℕ, ◌*◌, ◌≤◌, ◌<◌, ◌≡◌, List, map, eqb, length, get_or, Option, Some}
use Rattle.std.specs.Prelude.{None}
use Rattle.octets.specs.Words.{pick, Not}
use Rattle.index.specs.Numbers.{end_of}
use Rattle.index.specs.Bounds.{most_octets, unlimited}
use Rattle.index.specs.declared.bounds.Room.{Room}
use Rattle.index.specs.declared.line.Line.{Line}
use Rattle.index.specs.Walk.{walked}
use Rattle.standing.specs.Tables.{rows_of, stored_over}
use Rattle.walk.specs.Tables.{answer_of, walk_of}
use Rattle.walk_numbers.specs.Numbers.{lines_of, seven_of, walk_numbers}
use Rattle.pull.specs.Pull.{hands_out, pulled}
use Rattle.pull.specs.Calls.{pull_at, after_calls}
use Rattle.as_the_crate.specs.Std.{SectionInfo, info}
use Rattle.as_the_crate.specs.Parser.{Submessage, overflow}
use Rattle.as_the_crate.specs.Told.{the_rust, the_public_rust, told_by_the_rust}

-- a file: a list of octets, at most 2^40
pub record IsFile (file : List ℕ) : Type 0 where
  pub octets : (i : ℕ) → get_or file i 0 < 256
  pub most : length file ≤ most_octets

-- the crate overflows on it
abbrev pub RustOverflows : List ℕ → Type 0
RustOverflows file = (the_rust file).end ≡ overflow

-- tables with room for so many rows and lines hold all that the crate tells
abbrev pub HoldsTheRust : List ℕ → ℕ → ℕ → Type 0
HoldsTheRust file rows lines =
    (length (the_rust file).sections ≤ rows) × (length (the_rust file).submessages ≤ lines)

-- the detail at the end of a file's walk. It stands in for the one number that the crate never
-- tells: where both refuse with 2, how many octets are missing (02, Ticket 2). Nothing else that is
-- told by the crate is taken from the walk
abbrev pub count_told : List ℕ → ℕ
count_told file = (end_of (walked unlimited file).outcome).detail

-- sections, lines, messages closed and outcome with place, offset and detail: but for that count the
-- definition of a walk is what the crate tells, with its 0 in the ninth position turned into "goes
-- on"
abbrev pub EqualsTheRust : Type 0
EqualsTheRust =
    (file : List ℕ) → IsFile file → Not (RustOverflows file)
    → (room : Room) → HoldsTheRust file room.rows room.lines
    → walked room file ≡ told_by_the_rust (count_told file) file

-- so `walk` answers that, and stores it in the lent tables, over what was there
abbrev pub WalkEqualsTheRust : Type 0
WalkEqualsTheRust =
    (file : List ℕ) → IsFile file → Not (RustOverflows file)
    → (rows : List ℕ) (lines : List Line)
    → 3 * length (the_rust file).sections ≤ length rows
    → length (the_rust file).submessages ≤ length lines
    → let rust = told_by_the_rust (count_told file) file in
    walk_of file rows lines
    ≡ record {
      answer = answer_of rust;
      rows = stored_over (rows_of rust.sections) rows;
      lines = stored_over rust.lines lines;
    }

-- and `walk_numbers`, in 01's numbers
abbrev pub WalkNumbersEqualsTheRust : Type 0
WalkNumbersEqualsTheRust =
    (file : List ℕ) → IsFile file → Not (RustOverflows file)
    → (rows lines : List ℕ)
    → 3 * length (the_rust file).sections ≤ length rows
    → 15 * length (the_rust file).submessages ≤ length lines
    → let rust = told_by_the_rust (count_told file) file in
    walk_numbers file rows lines
    ≡ record {
      answer = seven_of (answer_of rust);
      rows = stored_over (rows_of rust.sections) rows;
      lines = stored_over (lines_of rust.lines) lines;
    }

-- and the pull reader hands out the crate's sections in their order, a section a call, then its
-- error once, then "ended": by definition, and from the state after so many calls
abbrev pub PullEqualsTheRust : Type 0
PullEqualsTheRust =
    (file : List ℕ) → IsFile file → Not (RustOverflows file) → (call : ℕ)
    → let rust = told_by_the_rust (count_told file) file in
    (pulled file call ≡ hands_out 0 rust.sections rust.outcome call)
    × ((pull_at file (after_calls call file)).answer
    ≡ hands_out 0 rust.sections rust.outcome call)

-- the section at a place of those that passed
abbrev pub passed_at : List SectionInfo → ℕ → SectionInfo
passed_at passed pos = get_or passed pos (info 0 0 0)

-- the same for a section 2
abbrev pub passed_at_some : List SectionInfo → Option ℕ → Option SectionInfo
passed_at_some passed (Some pos) = Some (passed_at passed pos)
passed_at_some passed None = None

-- a submessage with the sections at its places; place 0 in the ninth position is the section 8 that
-- the crate makes up
abbrev pub looked_up : List SectionInfo → Submessage ℕ → Submessage SectionInfo
looked_up passed s =
    record {
      message = s.message;
      submessage = s.submessage;
      sect0 = passed_at passed s.sect0;
      sect1 = passed_at passed s.sect1;
      sect2 = passed_at_some passed s.sect2;
      sect3 = passed_at passed s.sect3;
      sect4 = passed_at passed s.sect4;
      sect5 = passed_at passed s.sect5;
      sect6 = passed_at passed s.sect6;
      sect7 = passed_at passed s.sect7;
      sect8 = pick (eqb s.sect8 0) (info 8 0 4) (passed_at passed s.sect8);
    }

-- the crate's public stream, Grib2SubmessageStream, tells the same, overflow or not
abbrev pub PublicRustIsTheSame : Type 0
PublicRustIsTheSame =
    (file : List ℕ) → IsFile file
    → let rust = the_rust file in
    the_public_rust file
    ≡ record {
      sections = rust.sections;
      submessages = map (λ (s : Submessage ℕ). looked_up rust.sections s) rust.submessages;
      end = rust.end;
    }
