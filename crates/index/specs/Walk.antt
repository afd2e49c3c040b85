-- What a walk tells of a file: its section lines, its submessage lines, how many messages it
-- closes, and how it ends (01, "Order", "Refusal numbers"). It goes down the file's listing, with
-- room for so many rows and lines.
use Rattle.std.specs.Prelude.{ℕ, ◌+◌, List, [], ◌∷◌, ◌++◌, eqb, ltb, leb, length, Some, None, Ok, Err}
use Rattle.octets.specs.Words.{pick}
use Rattle.octets.specs.BigEndian.{be_at}
use Rattle.sections.specs.Kinds as kinds
use Rattle.framing.specs.Listing.{Ending, over, unreadable, listing}
use Rattle.framing.specs.declared.read.Offset.{Offset}
use Rattle.framing.specs.declared.read.Section.{Section}
use Rattle.order.specs.Order.{judged, completes, is_between}
use Rattle.order.specs.declared.Place.{Place}
use Rattle.order.specs.declared.Order.{Order}
use Rattle.order.specs.declared.Order.TheVariants.{BetweenMessages, SubmessageStart}
use Rattle.order.specs.declared.Judged.{Judged}
use Rattle.order.specs.declared.Judged.TheVariants as judged
use Rattle.index.specs.Lines.{
  place,
  span,
  unlisted,
  opened,
  with_span,
  in_force,
  with_submessage,
  line_of,
}
use Rattle.index.specs.declared.line.Span.{Span}
use Rattle.index.specs.declared.line.Force.{Force}
use Rattle.index.specs.declared.line.Line.{Line}
use Rattle.index.specs.declared.refusal.Refusal.{Refusal}
use Rattle.index.specs.declared.refusal.Refusal.TheVariants as refusal
use Rattle.index.specs.declared.listed.Listed.{Listed}
use Rattle.index.specs.Bounds.{most_octets}
use Rattle.index.specs.declared.bounds.Room.{Room}
use Rattle.index.specs.Outcome.{Outcome, refused_there}

-- what stands before a section: the file that is walked, how many sections and lines are told, the
-- section told last, what was read last, what is in force
pub record Reached : Type 0 where
  pub file : List ℕ
  pub sections : ℕ
  pub lines : ℕ
  pub last : Listed
  pub order : Order
  pub force : Force

-- before the first section of a file
abbrev pub at_start : List ℕ → Reached
at_start file =
    record {
      file = file;
      sections = 0;
      lines = 0;
      last = unlisted;
      order = BetweenMessages;
      force = opened 0;
    }

-- a well-read section stops the walk, or is passed: with the lines that are told because of it, and
-- the messages that it closes
pub data Judgement : Type 0 where
  stops : List Line → Refusal → Judgement
  passes : List Line → ℕ → Reached → Judgement

-- the section in hand, at its place
abbrev pub here : Reached → Section → Listed
here r s = record { place = place r.sections; section = s }

-- what a section 0 says of its message: where it stands, and its total length in octets 9 to 16
unfoldable pub span_at : List ℕ → Offset → Span
span_at file offset = span offset (be_at file (offset.0 + 8) 8)

-- of the message in hand, behind a section: a section 0 says it
unfoldable pub span_behind : List ℕ → Span → Section → Span
span_behind file before s =
    pick (eqb s.number (kinds.indicator).number) (span_at file s.offset) before

-- a section comes in force at its place
abbrev pub comes_in_force : List ℕ → Force → Section → Place → Force
comes_in_force file f s here =
    with_span (in_force f s.number here) (span_behind file f.span s)

-- it fits the order: 13, else it is passed and comes in force
unfoldable pub fitted : Room → Reached → Section → List Line → Order → Judgement
fitted room r s lines order =
    pick (leb room.rows r.sections) (stops lines refusal.SectionTableFull)
    (passes lines 0
    (record {
      file = r.file;
      sections = r.sections + 1;
      lines = r.lines;
      last = here r s;
      order = order;
      force = comes_in_force r.file r.force s (place r.sections);
    }))

-- it closes the message: 13, then 14, both lines or neither
unfoldable pub closing : Room → Reached → Section → Judgement
closing room r s =
    pick (leb room.rows r.sections) (stops [] refusal.SectionTableFull)
    (pick (leb room.lines r.lines) (stops [] refusal.SubmessageTableFull)
    (passes (line_of r.force (Some (place r.sections)) ∷ []) 1
    (record {
      file = r.file;
      sections = r.sections + 1;
      lines = r.lines + 1;
      last = here r s;
      order = BetweenMessages;
      force = opened (r.force.message + 1);
    })))

-- by the order: 11 or 12, then the tables
unfoldable pub by_order : Judged → Room → Reached → Section → List Line → Judgement
by_order (judged.Fits order) room r s lines = fitted room r s lines order
by_order judged.Closes room r s lines = closing room r s
by_order judged.Misplaced room r s lines = stops lines (refusal.Misplaced s.number)
by_order judged.NoGrid room r s lines = stops lines (refusal.NoGrid s.number)

-- the submessage in hand is complete, and its message goes on
abbrev pub gone_on : Reached → Reached
gone_on r =
    record {
      file = r.file;
      sections = r.sections;
      lines = r.lines + 1;
      last = r.last;
      order = SubmessageStart;
      force = with_submessage r.force (r.force.submessage + 1);
    }

-- after a good read: after 7 any section but 8 first completes the submessage, whose message goes on
-- (14); then it is judged
unfoldable pub judgement : Room → Reached → Section → Judgement
judgement room r s =
    pick (completes r.order s.number)
    (pick (leb room.lines r.lines) (stops [] refusal.SubmessageTableFull)
    (by_order (judged SubmessageStart s.number) room (gone_on r) s
    (line_of r.force None ∷ [])))
    (by_order (judged r.order s.number) room r s [])

-- what a walk tells
pub record Told : Type 0 where
  pub sections : List Section
  pub lines : List Line
  pub messages : ℕ
  pub outcome : Outcome

-- nothing more is told but how it ends
abbrev pub ends : Outcome → Told
ends outcome = record { sections = []; lines = []; messages = 0; outcome = outcome }

-- the input over between messages is a clean end, elsewhere 10 with the last section's place and
-- offset; a section that can't be read has the place that it would have
unfoldable pub concluded : Reached → Ending → Outcome
concluded r over =
    pick (is_between r.order) (Ok tt)
    (Err (refused_there refusal.InputOver r.last.place r.last.section.offset))
concluded r (unreadable fault offset) =
    Err (refused_there (refusal.Unreadable fault) (place r.sections) offset)

-- a section, and what the walk tells after it; a refused section is not listed, and what it
-- completed stands
abbrev pub followed : Reached → Section → Judgement → (Reached → Told) → Told
followed r s (stops lines why) later =
    record {
      sections = [];
      lines = lines;
      messages = 0;
      outcome = Err (refused_there why (place r.sections) s.offset);
    }
followed r s (passes lines closed reached) later =
    let rest = later reached in
    record {
      sections = s ∷ rest.sections;
      lines = lines ++ rest.lines;
      messages = closed + rest.messages;
      outcome = rest.outcome;
    }

-- down a list of sections
unfoldable pub walked_from : Room → Reached → List Section → Ending → Told
walked_from room r [] ending = ends (concluded r ending)
walked_from room r (s ∷ more) ending =
    followed r s (judgement room r s) (λ reached. walked_from room reached more ending)

-- the walk of a file: 1 over 2^40 octets, else down its listing
unfoldable pub walked : Room → List ℕ → Told
walked room file =
    pick (ltb most_octets (length file))
    (ends (Err (refused_there refusal.FileTooLong (place 0) (record { 0 = 0 }))))
    (walked_from room (at_start file) (listing file).sections (listing file).ending)
