-- The walk whose lines are fifteen numbers each.
use Rattle.std.specs.Prelude.{Option, Some, None}
use mathlib.Core.Path.{◌≡◌, refl, sym, ap, ◌∙◌}
use mathlib.Core.Bool.{true, false}
use mathlib.Core.List.{List, [], ◌∷◌, ◌++◌}
use Prim.Native.Nat.{ℕ, ◌*◌, ◌/◌, ◌^◌, ◌≤◌, ◌<◌}
use native.Mathlib.Omega.{arith}
use lib.ListN.{length}
use lib.Dec.{leb}
use borrow.Author.Tests.{leb-true, leb-false}
use Rattle.order.specs.Order.{completes}
use Rattle.order.specs.declared.Place.{Place}
use Rattle.framing.specs.declared.read.Section.{Section}
use Rattle.framing.specs.declared.read.Cursor.{Cursor}
use Rattle.index.specs.Lines.{place, opened}
use Rattle.index.specs.declared.line.Line.{Line}
use Rattle.index.specs.declared.line.Span.{Span}
use Rattle.index.specs.Walk.{Reached}
use Rattle.standing.specs.Tables.{stored_over}
use Rattle.standing.specs.Put.{put_at, row_put}
use Rattle.standing.specs.Standing.{force_in, passed_row}
use Rattle.standing.proofs.Put.{row_there}
use Rattle.standing.proofs.Passed.{more, behind}
use Rattle.walk_numbers.specs.Moves.{
  line_in_hand,
  told_line,
  closed_both,
  ended_at,
  misplaced_answer,
  misplaced_lines,
}
use Rattle.standing.specs.declared.Standing.{Standing}
use Rattle.reading.specs.Reading.{seen}
use Rattle.reading.specs.declared.Reading.{Reading}
use Rattle.reading.specs.declared.Seen.TheVariants.{Passes, Closes, Misplaced}
use Rattle.reading.proofs.Moves.{seen_again}
use Rattle.walk_numbers.specs.Numbers.{line_numbers, lines_of, seven_of, walk_numbers}
use Rattle.walk_numbers.specs.declared.numbers.WalkAnswer.{WalkAnswer}
use Rattle.standing.proofs.Lent as tables
use Rattle.standing.proofs.Lent.{encoded, Out, result, by_test_2, none}
use Rattle.index.specs.Outcome.{Outcome}

pub fifteen : (l : Line) → length (line_numbers l) ≡ 15
unfolding line_numbers
fifteen l = refl

pub in_room : (n : ℕ) → n / 15 * 15 ≤ n
in_room n = omega arith

same_lines : (lines : List Line) → encoded 15 line_numbers fifteen lines ≡ lines_of lines
unfolding encoded lines_of
same_lines [] = refl
same_lines (l ∷ more) = ap (λ (rest : List ℕ). line_numbers l ++ rest) (same_lines more)

-- what is reached, from the loop's variables
abbrev pub reached_at : List ℕ → Standing → Span → Option Place → List Place → Reached
reached_at file at span local places =
    record {
      file = file;
      sections = at.sections;
      lines = at.lines;
      last = at.last;
      order = at.reading.order;
      force = force_in at span local places;
    }

module _ (file rows₀ lines₀ : List ℕ) where
  abbrev pub Kept : Reached → Cursor → List ℕ → List ℕ → Type 0
  Kept = tables.Kept 15 line_numbers fifteen file rows₀ lines₀ (length lines₀ / 15) (in_room (length lines₀))

  abbrev pub meant : Out 15 line_numbers fifteen
  meant = tables.meant 15 line_numbers fifteen file rows₀ lines₀ (length lines₀ / 15) (in_room (length lines₀))

  abbrev pub KeptAt : Standing → Span → Option Place → List Place → List ℕ → List ℕ → Type 0
  KeptAt at span local places rows lines = Kept (reached_at file at span local places) at.reading.cursor rows lines

  -- the answer and both tables, at the end
  abbrev pub Met : WalkAnswer → List ℕ → List ℕ → Type 0
  Met answer rows lines =
      (answer ≡ (walk_numbers file rows₀ lines₀).answer)
      × ((rows ≡ (walk_numbers file rows₀ lines₀).rows) × (lines ≡ (walk_numbers file rows₀ lines₀).lines))

  -- .. of a walk that ends at a standing
  abbrev pub EndsAt : Standing → Outcome → List ℕ → List ℕ → Type 0
  EndsAt at end rows lines = meant ≡ result 15 line_numbers fifteen at.sections at.lines at.message end rows lines

  abbrev seven_in : Out 15 line_numbers fifteen → WalkAnswer
  seven_in o = seven_of (record { sections = o.sections; submessages = o.submessages; messages = o.messages; outcome = o.outcome })

  pub finished : (at : Standing) {end : Outcome} {rows lines : List ℕ} {answer : WalkAnswer}
      → EndsAt at end rows lines → answer ≡ ended_at at end → Met answer rows lines
  unfolding walk_numbers
  finished at e f =
      let told = sym e ∙ tables.is_told 15 line_numbers fifteen file rows₀ lines₀ (length lines₀ / 15) (in_room (length lines₀)) in (
        f ∙ ap (λ (x : Out 15 line_numbers fifteen). seven_in x) told,
        (
          ap (λ (x : Out 15 line_numbers fifteen). x.rows) told,
          ap (λ (x : Out 15 line_numbers fifteen). x.lines) told ∙ ap (λ (l : List ℕ). stored_over l lines₀) (same_lines _),
        ),
      )

  -- a section that fits is looked at, with no submessage left to tell before it
  pub record Passing (at : Standing) (span : Span) (local : Option Place) (places : List Place) (rows lines : List ℕ) (s : Section)
      (next : Reading) : Type 0 where
    pub kept : KeptAt at span local places rows lines
    pub sees : seen file at.reading ≡ Passes s next
    pub alone : completes at.reading.order s.number ≡ false

  -- the laws of `Lent`, for the tables as they were stored
  module _ {at : Standing} {span : Span} {local : Option Place} {places : List Place} {rows lines : List ℕ} where
    pub passing_on : {s : Section} {next : Reading} {at' : Standing} {lines' : List ℕ}
        → KeptAt at span local places rows lines → seen file at.reading ≡ Passes s next
        → completes at.reading.order s.number ≡ false → at' ≡ at → lines' ≡ lines
        → Passing at' span local places rows lines' s next
    passing_on kept e c same untouched = rw (same, untouched) (record { kept = kept; sees = e; alone = c })

    -- .. or once the line of the submessage that it completes is told
    pub passing_behind : {s : Section} {next : Reading} {at' : Standing} {lines' : List ℕ}
        → KeptAt at span local places rows lines → seen file at.reading ≡ Passes s next
        → completes at.reading.order s.number ≡ true → at.lines < length lines₀ / 15
        → at' ≡ told_line at → lines' ≡ put_at (at.lines * 15) (line_numbers (line_in_hand at span local places None)) lines
        → Passing at' span local places rows lines' s next
    passing_behind {s} kept e c free same put =
        rw (same, put)
        (record {
          kept = tables.gone_on_lem 15 line_numbers fifteen file rows₀ lines₀ (length lines₀ / 15) (in_room (length lines₀)) kept e c free;
          sees = seen_again file at.reading.cursor at.reading.order e c;
          alone = none s.number;
        })

    pub passed : {s : Section} {next : Reading} {at' : Standing} {span' : Span} {local' : Option Place} {places' : List Place} {rows' : List ℕ}
        → Passing at span local places rows lines s next → at.sections < length rows₀ / 3 → length rows₀ < 2 ^ 64
        → behind (force_in at span local places) s next.cursor (place at.sections) ≡ force_in at span' local' places'
        → at' ≡ passed_row at s next → rows' ≡ row_put at.sections s rows
        → KeptAt at' span' local' places' rows' lines
    passed {s} {span' = span'} {local' = local'} {places' = places'} p free fits f same put =
        rw (same, put, row_there at.sections s rows (rw p.kept.same_rows free), more at.sections (omega arith))
        (tables.passed 15 line_numbers fifteen file rows₀ lines₀ (length lines₀ / 15) (in_room (length lines₀)) p.kept
        (force_in at span' local' places') f p.sees p.alone free)

    pub closed : {s : Section} {next : Reading} {at' : Standing} {rows' lines' : List ℕ}
        → KeptAt at span local places rows lines → seen file at.reading ≡ Closes s next
        → at.sections < length rows₀ / 3 → at.lines < length lines₀ / 15
        → at' ≡ closed_both at s next → rows' ≡ row_put at.sections s rows
        → lines' ≡ put_at (at.lines * 15) (line_numbers (line_in_hand at span local places (Some (place at.sections)))) lines
        → KeptAt at' (opened 0).span (opened 0).local (opened 0).places rows' lines'
    closed {s} kept e free line same put told =
        rw (same, put, row_there at.sections s rows (rw kept.same_rows free), told)
        (tables.closed 15 line_numbers fifteen file rows₀ lines₀ (length lines₀ / 15) (in_room (length lines₀)) kept e free line)

    -- 11, or 14 before it
    pub misplaced : {s : Section} {answer : WalkAnswer} {lines' : List ℕ}
        → KeptAt at span local places rows lines → seen file at.reading ≡ Misplaced s
        → answer ≡ misplaced_answer (length lines / 15) at s
        → lines' ≡ misplaced_lines at (line_in_hand at span local places None) s lines → Met answer rows lines'
    unfolding misplaced_answer misplaced_lines
    misplaced {s} kept e answered put =
        rw (answered, put, kept.same_lines)
        (by_test_2 Answered (completes at.reading.order s.number)
        (λ c. by_test_2 Answered (leb (length lines₀ / 15) at.lines)
        (λ full. finished at (tables.no_line_misplaced 15 line_numbers fifteen file rows₀ lines₀ (length lines₀ / 15) (in_room (length lines₀)) kept e c (leb-true _ _ full)) refl)
        λ left. finished (told_line at) (tables.misplaced_line 15 line_numbers fifteen file rows₀ lines₀ (length lines₀ / 15) (in_room (length lines₀)) kept e c (leb-false _ _ left)) refl)
        λ c. finished at (tables.misplaced 15 line_numbers fifteen file rows₀ lines₀ (length lines₀ / 15) (in_room (length lines₀)) kept e c) refl)
      where
        Answered : WalkAnswer → List ℕ → Type 0
        Answered answer lines' = Met answer rows lines'
