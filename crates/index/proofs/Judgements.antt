-- The order of refusals after a good read, read off the definition of a walk (01, "Refusal numbers": "14 for a submessage that goes on, then 11
-- or 12, then 13; for a section 8 that closes: 13, then 14, both lines or neither").
use Rattle.std.specs.Prelude.{Some, None}
use mathlib.Core.Path.{◌≡◌}
use mathlib.Core.Bool.{true, false}
use mathlib.Core.List.{List, [], ◌∷◌}
use Prim.Native.Nat.{◌+◌, ◌≤◌, ◌<◌}
use borrow.Author.Tests.{le-leb, lt-leb}
use Rattle.framing.specs.declared.read.Section.{Section}
use Rattle.order.specs.Order.{judged, completes}
use Rattle.order.specs.declared.Order.{Order}
use Rattle.order.specs.declared.Order.TheVariants.{BetweenMessages, SubmessageStart}
use Rattle.order.specs.declared.Judged.TheVariants as judged
use Rattle.index.specs.Lines.{place, opened, line_of}
use Rattle.index.specs.declared.line.Line.{Line}
use Rattle.index.specs.declared.refusal.Refusal.TheVariants as refusal
use Rattle.index.specs.declared.bounds.Room.{Room}
use Rattle.index.specs.Walk.{Reached, stops, passes, here, comes_in_force, fitted, closing, by_order, judgement}

module _ (room : Room) (r : Reached) (s : Section) where
  -- the line of the submessage in hand, whose message goes on
  abbrev line : Line
  line = line_of r.force None

  -- a submessage that goes on: 14 comes first
  pub going_on_no_line : completes r.order s.number ≡ true → room.lines ≤ r.lines
      → judgement room r s ≡ stops [] refusal.SubmessageTableFull
  unfolding judgement
  going_on_no_line goes full = rw (goes, le-leb _ _ full)

  -- then 11, and the line stands
  pub going_on_misplaced : completes r.order s.number ≡ true → r.lines < room.lines
      → judged SubmessageStart s.number ≡ judged.Misplaced
      → judgement room r s ≡ stops (line ∷ []) (refusal.Misplaced s.number)
  unfolding judgement by_order
  going_on_misplaced goes free misfit = rw (goes, lt-leb _ _ free, misfit)

  -- then 13, and the line stands
  pub going_on_no_row : {next : Order} → completes r.order s.number ≡ true → r.lines < room.lines
      → judged SubmessageStart s.number ≡ judged.Fits next → room.rows ≤ r.sections
      → judgement room r s ≡ stops (line ∷ []) refusal.SectionTableFull
  unfolding judgement by_order fitted
  going_on_no_row goes free fits full = rw (goes, lt-leb _ _ free, fits, le-leb _ _ full)

  -- no submessage is complete: 11, 12 ..
  pub misplaced : completes r.order s.number ≡ false → judged r.order s.number ≡ judged.Misplaced
      → judgement room r s ≡ stops [] (refusal.Misplaced s.number)
  unfolding judgement by_order
  misplaced stays misfit = rw (stays, misfit)

  pub no_grid : completes r.order s.number ≡ false → judged r.order s.number ≡ judged.NoGrid
      → judgement room r s ≡ stops [] (refusal.NoGrid s.number)
  unfolding judgement by_order
  no_grid stays misfit = rw (stays, misfit)

  -- .. then 13; else the section is passed, and in force at its place
  pub fitted_no_row : (lines : List Line) (next : Order) → room.rows ≤ r.sections
      → fitted room r s lines next ≡ stops lines refusal.SectionTableFull
  unfolding fitted
  fitted_no_row lines next full = rw (le-leb _ _ full)

  pub fitted_passes : (lines : List Line) (next : Order) → r.sections < room.rows
      → fitted room r s lines next
      ≡ passes lines 0
      (record {
        file = r.file;
        sections = r.sections + 1;
        lines = r.lines;
        last = here r s;
        order = next;
        force = comes_in_force r.file r.force s (place r.sections);
      })
  unfolding fitted
  fitted_passes lines next free = rw (lt-leb _ _ free)

  -- a section 8 that closes: 13, then 14, neither line stored
  pub closing_no_row : room.rows ≤ r.sections → closing room r s ≡ stops [] refusal.SectionTableFull
  unfolding closing
  closing_no_row full = rw (le-leb _ _ full)

  pub closing_no_line : r.sections < room.rows → room.lines ≤ r.lines
      → closing room r s ≡ stops [] refusal.SubmessageTableFull
  unfolding closing
  closing_no_line free full = rw (lt-leb _ _ free, le-leb _ _ full)

  -- else both, one message more is closed, and the next begins with nothing in force
  pub closing_closes : r.sections < room.rows → r.lines < room.lines
      → closing room r s
      ≡ passes (line_of r.force (Some (place r.sections)) ∷ []) 1
      (record {
        file = r.file;
        sections = r.sections + 1;
        lines = r.lines + 1;
        last = here r s;
        order = BetweenMessages;
        force = opened (r.force.message + 1);
      })
  unfolding closing
  closing_closes free line = rw (lt-leb _ _ free, lt-leb _ _ line)
