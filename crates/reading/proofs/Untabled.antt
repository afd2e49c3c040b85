-- The walk where no table is lent, over what is seen: a section is passed, or the walk ends. For every loop over `look` without tables.
use Rattle.std.specs.Prelude.{Some, None, Ok, Err}
use mathlib.Core.Path.{◌≡◌, refl, ap, ◌∙◌}
use mathlib.Core.Bool.{Bool, true, false}
use mathlib.Core.List.{List, [], ◌∷◌, ◌++◌}
use Prim.Native.Nat.{ℕ, ◌+◌, ◌≤◌}
use native.Mathlib.Omega.{arith}
use lib.Dec.{leb}
use lib.ListN.{length}
use borrow.Author.Tests.{lt-leb, le-ltb}
use Rattle.order.specs.Order.{judged, completes, is_between}
use Rattle.order.specs.declared.Order.{Order}
use Rattle.order.specs.declared.Judged.TheVariants as order
use Rattle.order.proofs.Laws.{fits_open, closes_only}
use Rattle.framing.proofs.Tests.{never_both}
use Rattle.framing.specs.declared.read.Offset.{Offset}
use Rattle.framing.specs.declared.read.Section.{Section}
use Rattle.framing.specs.declared.read.Cursor.{Cursor}
use Rattle.framing.specs.declared.read.Fault.{Fault}
use Rattle.framing.specs.Read as read
use Rattle.framing.proofs.OneRead.{Reads, reads_as}
use Rattle.index.specs.Lines.{place, opened, line_of}
use Rattle.index.specs.declared.line.Force.{Force}
use Rattle.index.specs.declared.line.Line.{Line}
use Rattle.index.specs.declared.refusal.Refusal.TheVariants as refusal
use Rattle.index.specs.Bounds.{most_octets, unlimited}
use Rattle.index.specs.Walk.{Reached, at_start, here, comes_in_force, gone_on, fitted, closing, Told, walked}
use Rattle.reading.specs.Reading.{reading, start, Settled, seen}
use Rattle.reading.specs.declared.Reading.{Reading}
use Rattle.reading.specs.declared.Seen.{Seen}
use Rattle.reading.specs.declared.Seen.TheVariants as seen
use Rattle.reading.proofs.Moves.{
  Stands,
  passes_reads,
  passes_stands,
  passes_fits,
  passes_settled,
  closes_reads,
  closes_stands,
  closes_between,
  closes_judged,
  closes_settled,
}
use Rattle.reading.proofs.Told.{told_from, told_by, told_next, told_start}
use Rattle.index.specs.Outcome.{Outcome, refused_there}

-- what the walk tells from here on
abbrev pub told_on : List ℕ → Reached → Cursor → Told
told_on file r cursor = told_from file unlimited r cursor

-- no more sections than octets, no more lines than sections, and between messages nothing of one to come
pub record Bounded (file : List ℕ) (r : Reached) (cursor : Cursor) : Type 0 where
  pub sections : r.sections ≤ cursor.at.0
  pub lines : r.lines ≤ r.sections
  pub inside : r.sections ≤ length file
  pub settled : Settled (reading cursor r.order)

-- what is in force behind a section that is passed, and the lines told because of it: none; that of a submessage whose message goes on; the
-- last of its message
pub data Moved (r : Reached) (s : Section) (next : Order) : Force → List Line → Type 0 where
  on_within : completes r.order s.number ≡ false → judged r.order s.number ≡ order.Fits next
      → Moved r s next (comes_in_force r.file r.force s (place r.sections)) []
  on_completing : completes r.order s.number ≡ true → judged r.order s.number ≡ order.Fits next
      → Moved r s next (comes_in_force r.file (gone_on r).force s (place r.sections)) (line_of r.force None ∷ [])
  on_closing : judged r.order s.number ≡ order.Closes
      → Moved r s next (opened (r.force.message + 1)) (line_of r.force (Some (place r.sections)) ∷ [])

-- a section is passed: the walk goes on with q
pub record Passes (file : List ℕ) (r : Reached) (cursor : Cursor) (s : Section) (next : Reading) : Type 0 where
  pub q : Reached
  pub order : q.order ≡ next.order
  pub placed : q.sections ≡ r.sections + 1
  pub last : q.last ≡ here r s
  pub bounded : Bounded file q next.cursor
  pub is_read : Reads file cursor.at.0 cursor.rest (read.Section s next.cursor)
  pub between : is_between next.order ≡ true → s.number ≡ 8
  pub sections : (told_on file r cursor).sections ≡ s ∷ (told_on file q next.cursor).sections
  pub outcome : (told_on file r cursor).outcome ≡ (told_on file q next.cursor).outcome
  pub lines : List Line
  pub lined : q.lines ≡ r.lines + length lines
  pub moved : Moved r s next.order q.force lines
  pub lines_told : (told_on file r cursor).lines ≡ lines ++ (told_on file q next.cursor).lines

-- it ends with this outcome
pub record Ends (told : Told) (o : Outcome) : Type 0 where
  pub none : told.sections ≡ []
  pub outcome : told.outcome ≡ o

-- the walk of a file is what is told from its start on, and is bounded there
pub first_told : (file : List ℕ) → length file ≤ most_octets → walked unlimited file ≡ told_on file (at_start file) start.cursor
first_told file fits = told_start file unlimited ∙ simp (le-ltb _ _ fits)

pub first_bounded : (file : List ℕ) → Bounded file (at_start file) start.cursor
first_bounded file = record { sections = omega arith; lines = omega arith; inside = omega arith; settled = λ between. refl }

module _ (file : List ℕ) (fits : length file ≤ most_octets) (r : Reached) (cursor : Cursor) (bounded : Bounded file r cursor) where
  abbrev Sees : Seen → Type 0
  Sees v = seen file (reading cursor r.order) ≡ v

  tells : {v : Seen} → Sees v → told_on file r cursor ≡ told_by file unlimited r v
  tells e = told_next file unlimited r cursor bounded.settled ∙ ap (told_by file unlimited r) e

  rows : leb unlimited.rows r.sections ≡ false
  rows = lt-leb unlimited.rows r.sections (omega (arith, bounded.inside, fits))

  lines : leb unlimited.lines r.lines ≡ false
  lines = lt-leb unlimited.lines r.lines (omega (arith, bounded.inside, bounded.lines, fits))

  module _ {s : Section} (next : Reading) (stands : Stands file cursor.at.0 s next.cursor) where
    passing : (t : Bool) → completes r.order s.number ≡ t → Sees (seen.Passes s next) → Passes file r cursor s next
    unfolding told_by fitted
    passing true c e =
        record {
          q =
              record {
                file = r.file;
                sections = r.sections + 1;
                lines = r.lines + 1;
                last = here r s;
                order = next.order;
                force = comes_in_force r.file (gone_on r).force s (place r.sections);
              };
          order = refl;
          placed = refl;
          last = refl;
          bounded =
              record {
                sections = omega (arith, bounded.sections, stands.forward, stands.later);
                lines = omega (arith, bounded.lines);
                inside = omega (arith, bounded.sections, stands.inside);
                settled = passes_settled file (reading cursor r.order) bounded.settled e;
              };
          is_read = reads_as file cursor.at.0 cursor.rest (passes_reads file (reading cursor r.order) e);
          between = λ b. absurd (never_both b (fits_open r.order s.number (passes_fits file (reading cursor r.order) bounded.settled e)));
          sections = ap (λ (t : Told). t.sections) (tells e) ∙ rw (c, lines, rows);
          outcome = ap (λ (t : Told). t.outcome) (tells e) ∙ rw (c, lines, rows);
          lines = line_of r.force None ∷ [];
          lined = refl;
          moved = on_completing c (passes_fits file (reading cursor r.order) bounded.settled e);
          lines_told = ap (λ (t : Told). t.lines) (tells e) ∙ rw (c, lines, rows);
        }
    passing false c e =
        record {
          q =
              record {
                file = r.file;
                sections = r.sections + 1;
                lines = r.lines;
                last = here r s;
                order = next.order;
                force = comes_in_force r.file r.force s (place r.sections);
              };
          order = refl;
          placed = refl;
          last = refl;
          bounded =
              record {
                sections = omega (arith, bounded.sections, stands.forward, stands.later);
                lines = omega (arith, bounded.lines);
                inside = omega (arith, bounded.sections, stands.inside);
                settled = passes_settled file (reading cursor r.order) bounded.settled e;
              };
          is_read = reads_as file cursor.at.0 cursor.rest (passes_reads file (reading cursor r.order) e);
          between = λ b. absurd (never_both b (fits_open r.order s.number (passes_fits file (reading cursor r.order) bounded.settled e)));
          sections = ap (λ (t : Told). t.sections) (tells e) ∙ rw (c, rows);
          outcome = ap (λ (t : Told). t.outcome) (tells e) ∙ rw (c, rows);
          lines = [];
          lined = omega arith;
          moved = on_within c (passes_fits file (reading cursor r.order) bounded.settled e);
          lines_told = ap (λ (t : Told). t.lines) (tells e) ∙ rw (c, rows);
        }

    closing_passes : Sees (seen.Closes s next) → Passes file r cursor s next
    unfolding told_by closing
    closing_passes e =
        record {
          q =
              record {
                file = r.file;
                sections = r.sections + 1;
                lines = r.lines + 1;
                last = here r s;
                order = next.order;
                force = opened (r.force.message + 1);
              };
          order = refl;
          placed = refl;
          last = refl;
          bounded =
              record {
                sections = omega (arith, bounded.sections, stands.forward, stands.later);
                lines = omega (arith, bounded.lines);
                inside = omega (arith, bounded.sections, stands.inside);
                settled = closes_settled file (reading cursor r.order) bounded.settled e;
              };
          is_read = reads_as file cursor.at.0 cursor.rest (closes_reads file (reading cursor r.order) e);
          between = λ b. (closes_only r.order s.number (closes_judged file (reading cursor r.order) bounded.settled e)).1;
          sections = ap (λ (t : Told). t.sections) (tells e) ∙ rw (rows, lines, closes_between file (reading cursor r.order) e);
          outcome = ap (λ (t : Told). t.outcome) (tells e) ∙ rw (rows, lines, closes_between file (reading cursor r.order) e);
          lines = line_of r.force (Some (place r.sections)) ∷ [];
          lined = refl;
          moved = on_closing (closes_judged file (reading cursor r.order) bounded.settled e);
          lines_told = ap (λ (t : Told). t.lines) (tells e) ∙ rw (rows, lines, closes_between file (reading cursor r.order) e);
        }

  pub passes : {s : Section} {next : Reading} → Sees (seen.Passes s next) → Passes file r cursor s next
  passes {s} {next} e = passing next (passes_stands file (reading cursor r.order) e) (completes r.order s.number) refl e

  pub closes : {s : Section} {next : Reading} → Sees (seen.Closes s next) → Passes file r cursor s next
  closes {next = next} e = closing_passes next (closes_stands file (reading cursor r.order) e) e

  -- how it ends
  pub clean : Sees seen.Clean → Ends (told_on file r cursor) (Ok tt)
  unfolding told_by
  clean e = rw (tells e) (record { none = refl; outcome = refl })

  pub clean_lines : Sees seen.Clean → (told_on file r cursor).lines ≡ []
  unfolding told_by
  clean_lines e = rw (tells e)

  pub input_over_lem : Sees seen.InputOver → Ends (told_on file r cursor) (Err (refused_there refusal.InputOver r.last.place r.last.section.offset))
  unfolding told_by
  input_over_lem e = rw (tells e) (record { none = refl; outcome = refl })

  pub unreadable : {fault : Fault} {offset : Offset} → Sees (seen.Unreadable fault offset)
      → Ends (told_on file r cursor) (Err (refused_there (refusal.Unreadable fault) (place r.sections) offset))
  unfolding told_by
  unreadable e = rw (tells e) (record { none = refl; outcome = refl })

  pub no_grid : {s : Section} → Sees (seen.NoGrid s)
      → Ends (told_on file r cursor) (Err (refused_there (refusal.NoGrid s.number) (place r.sections) s.offset))
  unfolding told_by
  no_grid e = rw (tells e) (record { none = refl; outcome = refl })

  pub misplaced : {s : Section} → Sees (seen.Misplaced s)
      → Ends (told_on file r cursor) (Err (refused_there (refusal.Misplaced s.number) (place r.sections) s.offset))
  unfolding told_by
  misplaced {s} e = by_completing (completes r.order s.number) refl
    where
      by_completing : (t : Bool) → completes r.order s.number ≡ t
          → Ends (told_on file r cursor) (Err (refused_there (refusal.Misplaced s.number) (place r.sections) s.offset))
      by_completing true c = rw (tells e, c, lines) (record { none = refl; outcome = refl })
      by_completing false c = rw (tells e, c) (record { none = refl; outcome = refl })
