-- Machinery: one call of the pull reader, over where its reading stands.
use Rattle.std.specs.Prelude.{ℕ, zero, suc, ◌+◌, true, false, List, ltb, length, Option, Some, None, Result, Ok, Err}
use Rattle.octets.specs.Words.{pick}
use Rattle.framing.specs.declared.read.Section.{Section}
use Rattle.order.specs.declared.Place.{Place}
use Rattle.index.specs.Lines.{place, unlisted}
use Rattle.index.specs.declared.refusal.Refusal.TheVariants as refusal
use Rattle.index.specs.Bounds.{most_octets}
use Rattle.reading.specs.Reading.{start, seen}
use Rattle.reading.specs.declared.Reading.{Reading}
use Rattle.reading.specs.declared.Seen.{Seen}
use Rattle.reading.specs.declared.Seen.TheVariants as seen
use Rattle.pull.specs.declared.Progress.{Progress}
use Rattle.pull.specs.declared.Pull.{Pull}
use Rattle.index.specs.Outcome.{refused_there}
use Rattle.index.specs.declared.listed.Listed.{Listed}
use Rattle.index.specs.declared.refusal.Refused.{Refused}

-- before the first call
unfoldable pub first_of : List ℕ → Progress
first_of file = record { reading = start; place = place 0; last = unlisted; over = false }

-- the place behind this one; no file has so many sections that there is none
unfoldable pub further : Place → Place
further at = pick (ltb at.0 18446744073709551615) (place (at.0 + 1)) at

-- a section is handed out, and the next is read behind it
abbrev pub handed_out : Place → Section → Reading → Pull
handed_out at s next =
    record {
      answer = Some (Ok (record { place = at; section = s }));
      next =
          record {
            reading = next;
            place = further at;
            last = record { place = at; section = s };
            over = false;
          };
    }

-- the end is told, and all is over
abbrev pub stopped : Progress → Option (Result Listed Refused) → Pull
stopped p answer =
    record {
      answer = answer;
      next = record { reading = p.reading; place = p.place; last = p.last; over = true };
    }

-- by what is seen
unfoldable pub pull_by : Progress → Seen → Pull
pull_by p (seen.Passes s next) = handed_out p.place s next
pull_by p (seen.Closes s next) = handed_out p.place s next
pull_by p (seen.Misplaced s) =
    stopped p (Some (Err (refused_there (refusal.Misplaced s.number) p.place s.offset)))
pull_by p (seen.NoGrid s) = stopped p (Some (Err (refused_there (refusal.NoGrid s.number) p.place s.offset)))
pull_by p seen.Clean = stopped p None
pull_by p seen.InputOver =
    stopped p (Some (Err (refused_there refusal.InputOver p.last.place p.last.section.offset)))
pull_by p (seen.Unreadable fault offset) =
    stopped p (Some (Err (refused_there (refusal.Unreadable fault) p.place offset)))

-- one call
unfoldable pub pull_at : List ℕ → Progress → Pull
pull_at file p =
    pick p.over (record { answer = None; next = p })
    (pick (ltb most_octets (length file))
    (stopped p (Some (Err (refused_there refusal.FileTooLong (place 0) (record { 0 = 0 })))))
    (pull_by p (seen file p.reading)))

-- the progress after so many calls
unfoldable pub after_calls : ℕ → List ℕ → Progress
after_calls zero file = first_of file
after_calls (suc calls) file = (pull_at file (after_calls calls file)).next
