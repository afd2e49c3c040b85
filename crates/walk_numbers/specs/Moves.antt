-- Machinery: what a line or a closed message changes of where the walk stands, and its answers.
use Rattle.std.specs.Prelude.{ℕ, ◌+◌, ◌*◌, ◌/◌, List, leb, length, Option, Err}
use Rattle.octets.specs.Words.{pick}
use Rattle.framing.specs.declared.read.Fault.{Fault}
use Rattle.framing.specs.declared.read.Offset.{Offset}
use Rattle.framing.specs.declared.read.Section.{Section}
use Rattle.order.specs.Order.{completes}
use Rattle.order.specs.declared.Place.{Place}
use Rattle.order.specs.declared.Order.TheVariants.{SubmessageStart}
use Rattle.index.specs.Lines.{place, unlisted, line_of}
use Rattle.index.specs.declared.line.Span.{Span}
use Rattle.index.specs.declared.line.Line.{Line}
use Rattle.index.specs.declared.refusal.Refusal.{Refusal}
use Rattle.index.specs.declared.refusal.Refusal.TheVariants as refusal
use Rattle.reading.specs.Reading.{reading, start}
use Rattle.reading.specs.declared.Reading.{Reading}
use Rattle.standing.specs.Put.{put_at}
use Rattle.standing.specs.Standing.{force_in}
use Rattle.standing.specs.declared.Standing.{Standing}
use Rattle.walk_numbers.specs.Numbers.{line_numbers, seven_of}
use Rattle.walk_numbers.specs.declared.numbers.WalkAnswer.{WalkAnswer}
use Rattle.index.specs.Outcome.{Outcome, refused_there}

-- before the first section
abbrev pub unbegun : Standing
unbegun =
    record {
      reading = start;
      sections = 0;
      lines = 0;
      message = 0;
      submessage = 0;
      last = unlisted;
    }

-- the line of the submessage in hand: its message goes on, or is closed at a place
abbrev pub line_in_hand : Standing → Span → Option Place → List Place → Option Place → Line
line_in_hand at span local places end = line_of (force_in at span local places) end

-- that line is told, and the message goes on
abbrev pub told_line : Standing → Standing
told_line at =
    record {
      reading = reading at.reading.cursor SubmessageStart;
      sections = at.sections;
      lines = at.lines + 1;
      message = at.message;
      submessage = at.submessage + 1;
      last = at.last;
    }

-- section 8 closes the message
abbrev pub closed_both : Standing → Section → Reading → Standing
closed_both at s next =
    record {
      reading = next;
      sections = at.sections + 1;
      lines = at.lines + 1;
      message = at.message + 1;
      submessage = 0;
      last = record { place = place at.sections; section = s };
    }

-- the walk ends here, or at a section that is refused
abbrev pub ended_at : Standing → Outcome → WalkAnswer
ended_at at end =
    seven_of
    (record {
      sections = at.sections;
      submessages = at.lines;
      messages = at.message;
      outcome = end;
    })

abbrev pub refused_here : Standing → Refusal → Section → WalkAnswer
refused_here at why s = ended_at at (Err (refused_there why (place at.sections) s.offset))

-- the file is too long, the input is over inside a message, or a section can't be read
abbrev pub long_answer : WalkAnswer
long_answer = ended_at unbegun (Err (refused_there refusal.FileTooLong (place 0) (record { 0 = 0 })))

abbrev pub over_at : Standing → WalkAnswer
over_at at =
    ended_at at (Err (refused_there refusal.InputOver at.last.place at.last.section.offset))

abbrev pub unreadable_at : Standing → Fault → Offset → WalkAnswer
unreadable_at at fault offset =
    ended_at at (Err (refused_there (refusal.Unreadable fault) (place at.sections) offset))

-- a section that can't come next, with room for so many lines: 14 goes before 11
unfoldable pub misplaced_answer : ℕ → Standing → Section → WalkAnswer
misplaced_answer room at s =
    pick (completes at.reading.order s.number)
    (pick (leb room at.lines) (refused_here at refusal.SubmessageTableFull s)
    (refused_here (told_line at) (refusal.Misplaced s.number) s))
    (refused_here at (refusal.Misplaced s.number) s)

-- .. and what it leaves in the table
unfoldable pub misplaced_lines : Standing → Line → Section → List ℕ → List ℕ
misplaced_lines at l s lines =
    pick (completes at.reading.order s.number)
    (pick (leb (length lines / 15) at.lines) lines
    (put_at (at.lines * 15) (line_numbers l) lines))
    lines
