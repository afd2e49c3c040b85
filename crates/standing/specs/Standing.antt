-- Machinery: where a walk stands, and a section that it passes.
use Rattle.std.specs.Prelude.{ℕ, ◌+◌, ◌%◌, ◌^◌, ◌<◌, List, ◌==◌, nat_lt, slice_index, Option}
use Rattle.octets.specs.Words.{pick}
use Rattle.sections.specs.Kinds as kinds
use Rattle.framing.specs.declared.read.Section.{Section}
use Rattle.framing.specs.declared.read.Cursor.{Cursor}
use Rattle.order.specs.declared.Place.{Place}
use Rattle.index.specs.Lines.{place, span}
use Rattle.index.specs.declared.line.Span.{Span}
use Rattle.index.specs.declared.line.Force.{Force}
use Rattle.reading.specs.declared.Reading.{Reading}
use Rattle.standing.specs.declared.Standing.{Standing}

-- a file is a list of octets
abbrev pub IsOctets : List ℕ → Type 0
IsOctets file = (i : ℕ) → slice_index file i < 256

-- one more, of a count that no file brings to its end
unfoldable pub one_more : ℕ → ℕ
one_more n = pick (nat_lt n 18446744073709551615) (n + 1) n

-- what is in force, from the walk's variables
abbrev pub force_in : Standing → Span → Option Place → List Place → Force
force_in at span local places =
    record {
      message = at.message;
      submessage = at.submessage;
      span = span;
      local = local;
      places = places;
    }

-- the total length of a message of which so much is left behind its section 0: a sum in 64 bits,
-- which no file brings to its end
unfoldable pub total_of : ℕ → ℕ
total_of rest = (rest + kinds.indicator_size) % 2 ^ 64

-- where the message in hand stands, behind a section and before so much more of it
unfoldable pub span_after : Span → Section → Cursor → Span
span_after before s next =
    pick (s.number == (kinds.indicator).number) (span s.offset (total_of next.rest))
    before

-- a section is passed
abbrev pub passed_row : Standing → Section → Reading → Standing
passed_row at s next =
    record {
      reading = next;
      sections = one_more at.sections;
      lines = at.lines;
      message = at.message;
      submessage = at.submessage;
      last = record { place = place at.sections; section = s };
    }
