-- A turn of the walk, and a step of several: from tables as they are kept they make tables as they are kept, or they end the walk as the walk is
-- meant to end.
use Rattle.std.specs.Prelude.{Option, Some, None}
use mathlib.Core.Path.{◌≡◌, refl, sym, ap, subst, ◌∙◌}
use mathlib.Core.Bool.{true, false}
use mathlib.Core.List.{List, [], ◌∷◌}
use Prim.Native.Nat.{ℕ, zero, suc, ◌+◌, ◌-◌, ◌*◌, ◌/◌, ◌^◌, ◌≤◌, ◌<◌}
use native.Mathlib.Nat.{mul-one}
use native.Mathlib.Omega.{arith}
use lib.Dec.{ltb, leb}
use lib.ListN.{length}
use borrow.Author.Tests.{leb-true, leb-false, ltb-true, ltb-false}
use Rattle.framing.specs.declared.read.Section.{Section}
use Rattle.framing.specs.declared.read.Cursor.{Cursor}
use Rattle.framing.proofs.Tests.{by_test}
use Rattle.order.specs.Order.{completes}
use Rattle.index.specs.Lines.{place, with_submessage, line_of}
use Rattle.index.specs.declared.line.Line.{Line}
use Rattle.index.specs.declared.listed.Listed.{Listed}
use Rattle.index.specs.Bounds.{most_octets}
use Rattle.index.specs.declared.bounds.Room.{Room}
use Rattle.index.specs.Walk.{Reached}
use Rattle.reading.specs.Reading.{seen}
use Rattle.reading.specs.declared.Reading.{Reading}
use Rattle.reading.specs.declared.Seen.{Seen}
use Rattle.reading.specs.declared.Seen.TheVariants.{Passes, Closes, Misplaced, NoGrid, Clean, InputOver, Unreadable}
use Rattle.reading.proofs.Moves.{passes_stands, closes_stands}
use Rattle.standing.specs.Standing.{IsOctets, one_more}
use Rattle.standing.specs.Tables.{room_of, stored_over}
use Rattle.walk.specs.Tables.{walk_of}
use Rattle.walk.specs.declared.lines.Answer.{Answer}
use Rattle.walk.specs.Turns.{
  rows_after,
  lines_after,
  fresh_of,
  standing_of,
  ended_of,
  told_of,
  passed_of,
  shut_of,
  fitted_of,
  taken_of,
  closed_of,
  misplaced_of,
  by_seen,
  turn_of,
  row_only,
  onward,
  Stepped,
  steps_of,
  step_of,
  begun_of,
  concluded_of,
}
use Rattle.walk.specs.declared.tally.Tally.{Tally}
use Rattle.standing.specs.Put.{put_at}
use Rattle.standing.proofs.Put.{put_one, row_there}
use Rattle.standing.proofs.Passed.{more, behind}
use Rattle.standing.proofs.Lent as lent
use Rattle.standing.proofs.Lent.{encoded, Out, result}
use Rattle.walk.proofs.Steps.{row_turn}
use Rattle.index.specs.Outcome.{Outcome}

-- a line is one element of its table
abbrev pub one : Line → List Line
one l = l ∷ []

abbrev pub wide : (l : Line) → length (one l) ≡ 1
wide l = refl

pub enough : (lines : List Line) → length lines * 1 ≤ length lines
enough lines = omega arith

same_lines : (lines : List Line) → encoded 1 one wide lines ≡ lines
unfolding encoded
same_lines [] = refl
same_lines (l ∷ more) = ap (λ (rest : List Line). l ∷ rest) (same_lines more)

-- the tables after a turn
row_none : (s : Listed) (rows : List ℕ) → rows_after false s rows ≡ rows
unfolding rows_after
row_none s rows = refl

row_put : (s : Listed) (rows : List ℕ) → s.place.0 < length rows / 3
    → rows_after true s rows
    ≡ put_at (s.place.0 * 3) (s.section.number ∷ s.section.offset.0 ∷ s.section.length ∷ []) rows
unfolding rows_after
row_put s rows free = row_there s.place.0 s.section rows free

line_none : (lines : List Line) → lines_after None lines ≡ lines
unfolding lines_after
line_none lines = refl

line_put : (slot : ℕ) (l : Line) (lines : List Line) → slot < length lines
    → lines_after (Some (slot, l)) lines ≡ put_at (slot * 1) (one l) lines
unfolding lines_after
line_put slot l lines free = put_one slot l lines free ∙ ap (λ (i : ℕ). put_at i (one l) lines) (sym (mul-one slot))

-- what a tally has reached
abbrev pub reached_of : List ℕ → Tally → Reached
reached_of file t =
    record { file = file; sections = t.sections; lines = t.lines; last = t.last; order = t.reading.order; force = t.force }

-- where the walk goes on behind a turn there was more to read before it than there is now
abbrev LessBy : List ℕ → Option Outcome → Tally → Tally → Type 0
LessBy file None t u =
    (t.reading.cursor.at.0 < length file) × (t.reading.cursor.at.0 < u.reading.cursor.at.0)
LessBy file (Some o) t u = Unit

abbrev pub Less : List ℕ → Tally → Tally → Type 0
Less file t u = LessBy file u.ended t u

module _ (file rows₀ : List ℕ) (lines₀ : List Line) where
  abbrev pub Kept : Reached → Cursor → List ℕ → List Line → Type 0
  Kept = lent.Kept 1 one wide file rows₀ lines₀ (length lines₀) (enough lines₀)

  abbrev pub meant : Out 1 one wide
  meant = lent.meant 1 one wide file rows₀ lines₀ (length lines₀) (enough lines₀)

  -- where the walk goes on the tables are kept, and where it has ended they are as meant
  abbrev HeldBy : Option Outcome → Tally → List ℕ → List Line → Type 0
  HeldBy None t rows lines = Kept (reached_of file t) t.reading.cursor rows lines
  HeldBy (Some o) t rows lines =
      meant ≡ result 1 one wide t.sections t.lines t.force.message o rows lines

  pub record Held (t : Tally) (rows : List ℕ) (lines : List Line) : Type 0 where
    pub by : HeldBy t.ended t rows lines

  pub on : (t : Tally) (rows : List ℕ) (lines : List Line) → Held t rows lines → t.ended ≡ None
      → Kept (reached_of file t) t.reading.cursor rows lines
  on t rows lines held going = subst (λ (e : Option Outcome). HeldBy e t rows lines) going held.by

  -- the answer and both tables, at the end
  pub record Ran (t : Tally) (o : Outcome) (now₁ : List ℕ) (now₂ : List Line) : Type 0 where
    pub answer : concluded_of t o ≡ (walk_of file rows₀ lines₀).answer
    pub rows : now₁ ≡ (walk_of file rows₀ lines₀).rows
    pub lines : now₂ ≡ (walk_of file rows₀ lines₀).lines

  -- the counts of a walk, and how it ended
  abbrev answer_in : Out 1 one wide → Answer
  answer_in o = record { sections = o.sections; submessages = o.submessages; messages = o.messages; outcome = o.outcome }

  pub ran : (t : Tally) {o : Outcome} (rows : List ℕ) (lines : List Line) → Held t rows lines
      → t.ended ≡ Some o → Ran t o rows lines
  unfolding walk_of
  ran t rows lines held ended =
      let e = sym (subst (λ (x : Option Outcome). HeldBy x t rows lines) ended held.by)
      ∙ lent.is_told 1 one wide file rows₀ lines₀ (length lines₀) (enough lines₀) in
      record {
        answer = ap (λ (x : Out 1 one wide). answer_in x) e;
        rows = ap (λ (x : Out 1 one wide). x.rows) e;
        lines = ap (λ (x : Out 1 one wide). x.lines) e ∙ ap (λ (l : List Line). stored_over l lines₀) (same_lines _);
      }

  -- before the first turn
  abbrev Begins : Tally → Type 0
  Begins t = Held t rows₀ lines₀

  pub begun : IsOctets file → Held (begun_of (length file)) rows₀ lines₀
  unfolding begun_of
  begun octets =
      by_test Begins (ltb most_octets (length file))
      (λ long.
      record {
        by =
            lent.too_long 1 one wide file rows₀ lines₀ (length lines₀) (enough lines₀)
            (ltb-true most_octets (length file) long);
      })
      λ short.
      record {
        by =
            lent.begins 1 one wide file rows₀ lines₀ (length lines₀) (enough lines₀) octets
            (ltb-false most_octets (length file) short);
      }

  -- a turn
  module _ (fits₁ : length rows₀ < 2 ^ 64) (fits₂ : length lines₀ < 2 ^ 64) (t : Tally) (rows : List ℕ) (lines : List Line)
      (kept : Kept (reached_of file t) t.reading.cursor rows lines) where
    abbrev room : Room
    room = room_of (length rows₀) (length lines₀)

    abbrev f : Tally
    f = fresh_of t

    -- what it leaves: tables as they are held, and less to read
    pub record After (u : Tally) : Type 0 where
      pub held : Held u (rows_after u.passed u.last rows) (lines_after u.due lines)
      pub less : Less file t u

    stops : (u : Tally) (o : Outcome)
        → meant
        ≡ result 1 one wide u.sections u.lines u.force.message o
        (rows_after u.passed u.last rows) (lines_after u.due lines)
        → After (ended_of u o)
    stops u o e = record { held = record { by = e }; less = tt }

    ends : (o : Outcome) → meant ≡ result 1 one wide t.sections t.lines t.force.message o rows lines → After (ended_of f o)
    ends o e = stops f o (rw (row_none t.last rows, line_none lines) e)

    goes : (u : Tally) → u.ended ≡ None
        → Kept (reached_of file u) u.reading.cursor (rows_after u.passed u.last rows)
        (lines_after u.due lines)
        → (t.reading.cursor.at.0 < length file) × (t.reading.cursor.at.0 < u.reading.cursor.at.0) → After u
    goes u going k l = record { held = record { by = rw going k }; less = rw going l }

    -- the counts stay below their end
    sections_more : t.sections < length rows₀ / 3 → one_more t.sections ≡ t.sections + 1
    sections_more free = more t.sections (omega arith)

    lines_more : t.lines < length lines₀ → one_more t.lines ≡ t.lines + 1
    lines_more free = more t.lines (omega arith)

    message_more : t.lines < length lines₀ → one_more t.force.message ≡ t.force.message + 1
    message_more free = more t.force.message (omega (arith, kept.messages))

    submessage_more : t.lines < length lines₀ → one_more t.force.submessage ≡ t.force.submessage + 1
    submessage_more free = more t.force.submessage (omega (arith, kept.submessages))

    row_stored : (s : Section) → t.sections < length rows₀ / 3
        → rows_after true (record { place = place t.sections; section = s }) rows
        ≡ put_at (t.sections * 3) (s.number ∷ s.offset.0 ∷ s.length ∷ []) rows
    row_stored s free = row_put (record { place = place t.sections; section = s }) rows (rw kept.same_rows free)

    line_stored : (l : Line) → t.lines < length lines₀
        → lines_after (Some (t.lines, l)) lines ≡ put_at (t.lines * 1) (one l) lines
    line_stored l free = line_put t.lines l lines (omega (arith, kept.same_lines))

    moves : {s : Section} {next : Reading} → seen file t.reading ≡ Passes s next
        → (t.reading.cursor.at.0 < length file) × (t.reading.cursor.at.0 < next.cursor.at.0)
    moves e = let stands = passes_stands file t.reading e in (stands.inside, omega (arith, stands.forward, stands.later))

    moves_closing : {s : Section} {next : Reading} → seen file t.reading ≡ Closes s next
        → (t.reading.cursor.at.0 < length file) × (t.reading.cursor.at.0 < next.cursor.at.0)
    moves_closing e = let stands = closes_stands file t.reading e in (stands.inside, omega (arith, stands.forward, stands.later))

    -- a section that fits, where nothing is completed
    fits : (s : Section) (next : Reading) → seen file t.reading ≡ Passes s next → completes t.reading.order s.number ≡ false
        → After (fitted_of room f s next)
    unfolding fitted_of
    fits s next e c =
        by_test After (leb (length rows₀ / 3) t.sections)
        (λ full. ends _ (lent.no_row 1 one wide file rows₀ lines₀ (length lines₀) (enough lines₀) kept e c (leb-true _ _ full)))
        λ left.
        let free : t.sections < length rows₀ / 3 = leb-false (length rows₀ / 3) t.sections left in
        goes (passed_of f s next) refl
        (rw (row_stored s free, line_none lines, sections_more free)
        (lent.passed 1 one wide file rows₀ lines₀ (length lines₀) (enough lines₀) kept (behind t.force s next.cursor (place t.sections)) refl e c free))
        (moves e)

    -- .. behind the submessage that it completes
    abbrev line : Line
    line = line_of t.force None

    fits_behind : (s : Section) (next : Reading) → seen file t.reading ≡ Passes s next → completes t.reading.order s.number ≡ true
        → t.lines < length lines₀ → After (fitted_of room (told_of f) s next)
    unfolding fitted_of
    fits_behind s next e c room-left =
        by_test After (leb (length rows₀ / 3) t.sections)
        (λ full.
        stops (told_of f) _
        (rw (row_none t.last rows, line_stored line room-left, lines_more room-left)
        (lent.no_row_behind 1 one wide file rows₀ lines₀ (length lines₀) (enough lines₀) kept e c room-left (leb-true _ _ full))))
        λ left.
        let free : t.sections < length rows₀ / 3 = leb-false (length rows₀ / 3) t.sections left in
        goes (passed_of (told_of f) s next) refl
        (rw (
          row_stored s free,
          line_stored line room-left,
          sections_more free,
          lines_more room-left,
          submessage_more room-left,
        )
        (lent.passed_behind 1 one wide file rows₀ lines₀ (length lines₀) (enough lines₀) kept
        (behind (with_submessage t.force (t.force.submessage + 1)) s next.cursor (place t.sections)) refl e c room-left free))
        (moves e)

    turns_by : (v : Seen) → seen file t.reading ≡ v → After (by_seen v room f)
    unfolding by_seen taken_of closed_of misplaced_of
    turns_by (Passes s next) e =
        by_test After (completes t.reading.order s.number)
        (λ c. by_test After (leb (length lines₀) t.lines)
        (λ full. ends _ (lent.no_line 1 one wide file rows₀ lines₀ (length lines₀) (enough lines₀) kept e c (leb-true _ _ full)))
        λ left. fits_behind s next e c (leb-false (length lines₀) t.lines left))
        λ c. fits s next e c
    turns_by (Closes s next) e =
        by_test After (leb (length rows₀ / 3) t.sections)
        (λ full. ends _ (lent.no_row_closing 1 one wide file rows₀ lines₀ (length lines₀) (enough lines₀) kept e (leb-true _ _ full)))
        λ left.
        let free : t.sections < length rows₀ / 3 = leb-false (length rows₀ / 3) t.sections left in
        by_test After (leb (length lines₀) t.lines)
        (λ full. ends _ (lent.no_line_closing 1 one wide file rows₀ lines₀ (length lines₀) (enough lines₀) kept e free (leb-true _ _ full)))
        λ more_left.
        let room-left : t.lines < length lines₀ = leb-false (length lines₀) t.lines more_left in
        goes (shut_of f s next) refl
        (rw (
          row_stored s free,
          line_stored (line_of t.force (Some (place t.sections))) room-left,
          sections_more free,
          lines_more room-left,
          message_more room-left,
        )
        (lent.closed 1 one wide file rows₀ lines₀ (length lines₀) (enough lines₀) kept e free room-left))
        (moves_closing e)
    turns_by (Misplaced s) e =
        by_test After (completes t.reading.order s.number)
        (λ c. by_test After (leb (length lines₀) t.lines)
        (λ full. ends _ (lent.no_line_misplaced 1 one wide file rows₀ lines₀ (length lines₀) (enough lines₀) kept e c (leb-true _ _ full)))
        λ left.
        let room-left : t.lines < length lines₀ = leb-false (length lines₀) t.lines left in
        stops (told_of f) _
        (rw (row_none t.last rows, line_stored line room-left, lines_more room-left) (lent.misplaced_line 1 one wide file rows₀ lines₀ (length lines₀) (enough lines₀) kept e c room-left)))
        λ c. ends _ (lent.misplaced 1 one wide file rows₀ lines₀ (length lines₀) (enough lines₀) kept e c)
    turns_by (NoGrid s) e = ends _ (lent.no_grid 1 one wide file rows₀ lines₀ (length lines₀) (enough lines₀) kept e)
    turns_by Clean e = ends _ (lent.clean 1 one wide file rows₀ lines₀ (length lines₀) (enough lines₀) kept e)
    turns_by InputOver e = ends _ (lent.input_over_lem 1 one wide file rows₀ lines₀ (length lines₀) (enough lines₀) kept e)
    turns_by (Unreadable fault offset) e = ends _ (lent.unreadable 1 one wide file rows₀ lines₀ (length lines₀) (enough lines₀) kept e)

    turned : After (turn_of file room t)
    unfolding turn_of
    turned = turns_by (seen file t.reading) refl

  -- turns of which a row is all that comes, and the one behind them
  module _ (fits₁ : length rows₀ < 2 ^ 64) (fits₂ : length lines₀ < 2 ^ 64) (lines : List Line) where
    abbrev within : Room
    within = room_of (length rows₀) (length lines₀)

    -- what they leave: tables as they are held, and less to read
    pub record Left (t : Tally) (o : Stepped) : Type 0 where
      pub held : Held o.tally o.rows (lines_after o.tally.due lines)
      pub less : Less file t o.tally

    -- what is left behind a turn that moved on
    further : (e : Option Outcome) (t u v : Tally) → LessBy file None t u → LessBy file e u v
        → LessBy file e t v
    further None t u v moved later = (moved.0, omega (arith, moved.1, later.1))
    further (Some o) t u v moved later = tt

    abbrev Lefts : ℕ → Type 0
    Lefts most = (t : Tally) (rows : List ℕ) → Kept (reached_of file t) t.reading.cursor rows lines
        → length file - t.reading.cursor.at.0 < most → Left t (steps_of file within most t rows)

    one_turn : (most : ℕ) → Lefts most → Lefts (suc most)
    unfolding steps_of
    one_turn most rest t rows kept less =
        by_only (row_only within (standing_of t) (seen file t.reading)) refl
      where
        u : Tally
        u = turn_of file within t

        stored : List ℕ
        stored = rows_after u.passed u.last rows

        after : After fits₁ fits₂ t rows lines kept u
        after = turned fits₁ fits₂ t rows lines kept

        by_only : (o : Option (Section × Reading)) → row_only within (standing_of t) (seen file t.reading) ≡ o
            → Left t (onward o (steps_of file within most (fresh_of u) stored) (record { tally = u; rows = stored }))
        by_only None e = record { held = after.held; less = after.less }
        by_only (Some (s, next)) e =
            let is = row_turn file within t e in
            let going : u.ended ≡ None = ap (λ (x : Tally). x.ended) is in
            let none : lines_after u.due lines ≡ lines
            = ap (λ (x : Tally). lines_after x.due lines) is ∙ line_none lines in
            let kept' = subst (Kept (reached_of file u) u.reading.cursor stored) none
            (on u stored (lines_after u.due lines) after.held going) in
            let moved = subst (λ (e : Option Outcome). LessBy file e t u) going after.less in
            let left = rest (fresh_of u) stored kept' (omega (arith, less, moved.0, moved.1)) in
            record { held = left.held; less = further _ t (fresh_of u) _ moved left.less }

    steps : (most : ℕ) → Lefts most
    steps zero = λ t rows kept less. absurd (omega (arith, less))
    steps (suc most) = one_turn most (steps most)

    -- the step, with the tables as long as they are
    pub stepped : (t : Tally) (rows : List ℕ) → Kept (reached_of file t) t.reading.cursor rows lines
        → Left t (step_of file (length lines) t rows)
    unfolding step_of
    stepped t rows kept =
        rw (kept.same_rows, kept.same_lines)
        (steps (suc (length file)) t rows kept (omega arith))

-- turns that are left, at most; each turn makes them fewer
abbrev left_by : Option Outcome → ℕ → ℕ
left_by None octets = suc octets
left_by (Some o) octets = 0

abbrev pub left_of : List ℕ → Tally → ℕ
left_of file t = left_by t.ended (length file - t.reading.cursor.at.0)

fewer_by : (file : List ℕ) (e : Option Outcome) (t u : Tally) → LessBy file e t u
    → left_by e (length file - u.reading.cursor.at.0) < suc (length file - t.reading.cursor.at.0)
fewer_by file None t u less = omega (arith, less.0, less.1)
fewer_by file (Some o) t u less = omega arith

falls : (file : List ℕ) (t u : Tally) → t.ended ≡ None → Less file t u
    → left_of file u < left_of file t
falls file t u going less = rw going (fewer_by file u.ended t u less)

-- a turn of the loop of `walk`: a step, and the line that it left due is stored
pub record Next (file rows₀ : List ℕ) (lines₀ : List Line) (t u : Tally) (rows : List ℕ) (lines : List Line) : Type 0 where
  pub held : Held file rows₀ lines₀ u rows lines
  pub fewer : left_of file u < left_of file t

pub next : {file rows₀ : List ℕ} {lines₀ : List Line} {t u : Tally} {rows rows' : List ℕ} {lines lines' : List Line}
    → length rows₀ < 2 ^ 64 → length lines₀ < 2 ^ 64 → length lines ≡ length lines₀
    → t.ended ≡ None → Held file rows₀ lines₀ t rows lines
    → u ≡ (step_of file (length lines₀) t rows).tally → rows' ≡ (step_of file (length lines₀) t rows).rows
    → lines' ≡ lines_after u.due lines
    → Next file rows₀ lines₀ t u rows' lines'
next {file = file} {rows₀ = rows₀} {lines₀ = lines₀} {t = t} {rows = rows} {lines = lines} fits₁ fits₂ same going held tally table put =
    let left = stepped file rows₀ lines₀ fits₁ fits₂ lines t rows
    (on file rows₀ lines₀ t rows lines held going) in
    rw (put, table, tally, ← same)
    (record { held = left.held; fewer = falls file t (step_of file (length lines) t rows).tally going left.less })
