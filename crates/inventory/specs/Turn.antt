-- Machinery: what the loop makes of what is seen: the line that is due, or the end.
use Rattle.std.specs.Prelude.{ℕ, Bool, Ok, Err}
use Rattle.octets.specs.Words.{pick}
use Rattle.index.specs.Lines.{place}
use Rattle.index.specs.declared.listed.Listed.{Listed}
use Rattle.framing.specs.declared.read.Section.{Section}
use Rattle.index.specs.declared.refusal.Refusal.TheVariants as refusal
use Rattle.reading.specs.declared.Seen.{Seen}
use Rattle.reading.specs.declared.Seen.TheVariants as seen
use Rattle.inventory.specs.declared.turn.Due.{Due}
use Rattle.inventory.specs.declared.turn.Due.TheVariants.{NoLine, Line}
use Rattle.index.specs.Outcome.{Outcome, refused_there}

-- a section that completes a submessage makes its line due
abbrev pub due_by : Bool → Due
due_by completing = pick completing Line NoLine

abbrev pub stray_at : Section → ℕ → Outcome
stray_at s count = Err (refused_there (refusal.Misplaced s.number) (place count) s.offset)

-- how a walk ends at what is seen, after so many sections and the last of them; a section that it
-- ends at is refused, though no walk ends at one that passes or closes
unfoldable pub stopped_by : Seen → ℕ → Listed → Outcome
stopped_by (seen.Passes s next) count last = stray_at s count
stopped_by (seen.Closes s next) count last = stray_at s count
stopped_by (seen.Misplaced s) count last = stray_at s count
stopped_by (seen.NoGrid s) count last =
    Err (refused_there (refusal.NoGrid s.number) (place count) s.offset)
stopped_by seen.Clean count last = Ok tt
stopped_by seen.InputOver count last =
    Err (refused_there refusal.InputOver last.place last.section.offset)
stopped_by (seen.Unreadable fault offset) count last =
    Err (refused_there (refusal.Unreadable fault) (place count) offset)
