-- Machinery: a turn of the loop that fills the lent tables, over what is seen at the reading, and
-- the turns of a step.
use Rattle.std.specs.Prelude.{
  ℕ,
  zero,
  suc,
  Bool,
  true,
  false,
  List,
  ltb,
  leb,
  length,
  set,
  Option,
  Some,
  None,
  Ok,
  Err,
}
use Rattle.octets.specs.Words.{pick}
use Rattle.framing.specs.declared.read.Section.{Section}
use Rattle.order.specs.Order.{completes}
use Rattle.order.specs.declared.Place.{Place}
use Rattle.index.specs.Lines.{
  place,
  unlisted,
  opened,
  with_span,
  in_force,
  with_submessage,
  line_of,
}
use Rattle.index.specs.declared.line.Span.{Span}
use Rattle.index.specs.declared.line.Line.{Line}
use Rattle.index.specs.declared.refusal.Refusal.{Refusal}
use Rattle.index.specs.declared.refusal.Refusal.TheVariants as refusal
use Rattle.index.specs.declared.listed.Listed.{Listed}
use Rattle.index.specs.Bounds.{most_octets}
use Rattle.index.specs.declared.bounds.Room.{Room}
use Rattle.reading.specs.Reading.{start, seen}
use Rattle.reading.specs.declared.Reading.{Reading}
use Rattle.reading.specs.declared.Seen.{Seen}
use Rattle.reading.specs.declared.Seen.TheVariants.{
  Passes,
  Closes,
  Misplaced,
  NoGrid,
  Clean,
  InputOver,
  Unreadable,
}
use Rattle.walk.specs.declared.lines.Answer.{Answer}
use Rattle.standing.specs.declared.Standing.{Standing}
use Rattle.walk.specs.declared.tally.Tally.{Tally}
use Rattle.standing.specs.Standing.{one_more, force_in, span_after}
use Rattle.standing.specs.Put.{row_put}
use Rattle.standing.specs.Tables.{room_of}
use Rattle.index.specs.Outcome.{Outcome, refused_there}

-- the section table after a turn
unfoldable pub rows_after : Bool → Listed → List ℕ → List ℕ
rows_after passed s rows = pick passed (row_put s.place.0 s.section rows) rows

-- the submessage table after a turn
unfoldable pub lines_after : Option (ℕ × Line) → List Line → List Line
lines_after (Some (slot, line)) lines = set lines slot line
lines_after None lines = lines

-- before the first section
abbrev pub unstarted : Tally
unstarted =
    record {
      reading = start;
      sections = 0;
      lines = 0;
      force = opened 0;
      last = unlisted;
      passed = false;
      due = None;
      ended = None;
    }

-- a turn begins, of a walk that goes on: nothing is due yet
abbrev pub fresh_of : Tally → Tally
fresh_of t =
    record {
      reading = t.reading;
      sections = t.sections;
      lines = t.lines;
      force = t.force;
      last = t.last;
      passed = false;
      due = None;
      ended = None;
    }

-- where a walk stands
abbrev pub standing_of : Tally → Standing
standing_of t =
    record {
      reading = t.reading;
      sections = t.sections;
      lines = t.lines;
      message = t.force.message;
      submessage = t.force.submessage;
      last = t.last;
    }

-- a turn begins where a walk stands that goes on, with this in force: nothing is due yet
abbrev pub resumed_of : Standing → Span → Option Place → List Place → Tally
resumed_of at span local places =
    record {
      reading = at.reading;
      sections = at.sections;
      lines = at.lines;
      force = force_in at span local places;
      last = at.last;
      passed = false;
      due = None;
      ended = None;
    }

-- the walk ends
abbrev pub ended_of : Tally → Outcome → Tally
ended_of t end =
    record {
      reading = t.reading;
      sections = t.sections;
      lines = t.lines;
      force = t.force;
      last = t.last;
      passed = t.passed;
      due = t.due;
      ended = Some end;
    }

abbrev pub refused_of : Tally → Refusal → Section → Tally
refused_of t why s = ended_of t (Err (refused_there why (place t.sections) s.offset))

-- the submessage in hand is complete, and its message goes on: its line is due
abbrev pub told_of : Tally → Tally
told_of t =
    record {
      reading = t.reading;
      sections = t.sections;
      lines = one_more t.lines;
      force = with_submessage t.force (one_more t.force.submessage);
      last = t.last;
      passed = t.passed;
      due = Some (t.lines, line_of t.force None);
      ended = t.ended;
    }

-- a section is passed
abbrev pub passed_of : Tally → Section → Reading → Tally
passed_of t s next =
    record {
      reading = next;
      sections = one_more t.sections;
      lines = t.lines;
      force =
          with_span (in_force t.force s.number (place t.sections))
          (span_after t.force.span s next.cursor);
      last = record { place = place t.sections; section = s };
      passed = true;
      due = t.due;
      ended = t.ended;
    }

-- section 8 closes the message
abbrev pub shut_of : Tally → Section → Reading → Tally
shut_of t s next =
    record {
      reading = next;
      sections = one_more t.sections;
      lines = one_more t.lines;
      force = opened (one_more t.force.message);
      last = record { place = place t.sections; section = s };
      passed = true;
      due = Some (t.lines, line_of t.force (Some (place t.sections)));
      ended = None;
    }

-- a section that fits: 13
unfoldable pub fitted_of : Room → Tally → Section → Reading → Tally
fitted_of room t s next =
    pick (leb room.rows t.sections) (refused_of t refusal.SectionTableFull s)
    (passed_of t s next)

-- it first completes a submessage that goes on (14), or does not
unfoldable pub taken_of : Room → Tally → Section → Reading → Tally
taken_of room t s next =
    pick (completes t.reading.order s.number)
    (pick (leb room.lines t.lines) (refused_of t refusal.SubmessageTableFull s)
    (fitted_of room (told_of t) s next))
    (fitted_of room t s next)

-- it closes the message: 13, then 14, both lines or neither
unfoldable pub closed_of : Room → Tally → Section → Reading → Tally
closed_of room t s next =
    pick (leb room.rows t.sections) (refused_of t refusal.SectionTableFull s)
    (pick (leb room.lines t.lines) (refused_of t refusal.SubmessageTableFull s)
    (shut_of t s next))

-- it can't come next: 11, behind the submessage that it completes
unfoldable pub misplaced_of : Room → Tally → Section → Tally
misplaced_of room t s =
    pick (completes t.reading.order s.number)
    (pick (leb room.lines t.lines) (refused_of t refusal.SubmessageTableFull s)
    (refused_of (told_of t) (refusal.Misplaced s.number) s))
    (refused_of t (refusal.Misplaced s.number) s)

-- by what is seen
unfoldable pub by_seen : Seen → Room → Tally → Tally
by_seen (Passes s next) room t = taken_of room t s next
by_seen (Closes s next) room t = closed_of room t s next
by_seen (Misplaced s) room t = misplaced_of room t s
by_seen (NoGrid s) room t = refused_of t (refusal.NoGrid s.number) s
by_seen Clean room t = ended_of t (Ok tt)
by_seen InputOver room t =
    ended_of t (Err (refused_there refusal.InputOver t.last.place t.last.section.offset))
by_seen (Unreadable fault offset) room t =
    ended_of t (Err (refused_there (refusal.Unreadable fault) (place t.sections) offset))

-- one turn
unfoldable pub turn_of : List ℕ → Room → Tally → Tally
turn_of file room t = by_seen (seen file t.reading) room (fresh_of t)

-- whether a row is all that comes of what is seen: with room for it, and no submessage completed
unfoldable pub row_only : Room → Standing → Seen → Option (Section × Reading)
row_only room at (Passes s next) =
    pick (leb room.rows at.sections) None
    (pick (completes at.reading.order s.number) None (Some (s, next)))
row_only room at (Closes s next) = None
row_only room at (Misplaced s) = None
row_only room at (NoGrid s) = None
row_only room at Clean = None
row_only room at InputOver = None
row_only room at (Unreadable fault offset) = None

-- a tally, and the section table
pub record Stepped : Type 0 where
  pub tally : Tally
  pub rows : List ℕ

abbrev pub onward : Option (Section × Reading) → Stepped → Stepped → Stepped
onward (Some (s, next)) on here = on
onward None on here = here

-- turns as long as a row is all that comes of one, so many at most
unfoldable pub steps_of : List ℕ → Room → ℕ → Tally → List ℕ → Stepped
steps_of file room zero t rows = record { tally = t; rows = rows }
steps_of file room (suc most) t rows =
    let u = turn_of file room t in
    let stored = rows_after u.passed u.last rows in
    onward (row_only room (standing_of t) (seen file t.reading))
    (steps_of file room most (fresh_of u) stored)
    (record { tally = u; rows = stored })

-- .. which are fewer than the file has octets, with room for so many lines
unfoldable pub step_of : List ℕ → ℕ → Tally → List ℕ → Stepped
step_of file lines t rows = steps_of file (room_of (length rows) lines) (suc (length file)) t rows

-- before the first turn: a file is at most 2^40 octets
unfoldable pub begun_of : ℕ → Tally
begun_of octets =
    pick (ltb most_octets octets)
    (ended_of unstarted (Err (refused_there refusal.FileTooLong (place 0) (record { 0 = 0 }))))
    unstarted

-- the counts and the outcome of a walk that has ended so
abbrev pub concluded_of : Tally → Outcome → Answer
concluded_of t outcome =
    record {
      sections = t.sections;
      submessages = t.lines;
      messages = t.force.message;
      outcome = outcome;
    }
