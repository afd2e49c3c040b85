-- A walk that fills lent tables, over any form of a line: so many elements of a table to a line. What is to come, put onto what stands in
-- the tables, stays the same from section to section.
use Rattle.std.specs.Prelude.{Some, None, Ok, Err}
use Rattle.std.proofs.Common.{◌≡◌, ℕ, ◌+◌, ◌*◌, ◌/◌, ◌<◌, ◌≤◌, Bool, true, false, eqb, ltb, leb, List, [], ◌∷◌, ◌++◌, length, sym, refl, ap, ◌∙◌, append-nil, add-zero, add_assoc, mul-le-mul_right, add-mul, one-mul, zero-add, zero-mul, arith, le-ltb, lt-ltb, le-leb}
use mathlib.Core.Bool.{false≢true}
use borrow.Author.Tests.{lt-leb}
use Rattle.octets.specs.Words.{pick}
use Rattle.order.specs.Order.{completes, is_between}
use Rattle.order.specs.declared.Place.{Place}
use Rattle.order.specs.declared.Order.TheVariants.{SubmessageStart}
use Rattle.framing.specs.declared.read.Section.{Section}
use Rattle.framing.specs.declared.read.Cursor.{Cursor}
use Rattle.framing.specs.declared.read.Fault.{Fault}
use Rattle.framing.specs.declared.read.Offset.{Offset}
use Rattle.framing.proofs.Tests.{by_test}
use Rattle.index.specs.Lines.{place, with_span, in_force, opened, line_of}
use Rattle.index.specs.declared.line.Span.{Span}
use Rattle.index.specs.declared.line.Force.{Force}
use Rattle.index.specs.declared.line.Line.{Line}
use Rattle.index.specs.declared.refusal.Refusal.TheVariants as refusal
use Rattle.index.specs.Bounds.{most_octets}
use Rattle.index.specs.declared.bounds.Room.{Room}
use Rattle.index.specs.Walk.{Reached, at_start, here, comes_in_force, Judgement, fitted, closing, gone_on, Told, ends, followed, walked}
use Rattle.standing.specs.Tables.{rows_of, stored_over}
use Rattle.standing.specs.Put.{put_at}
use Rattle.standing.specs.Standing.{IsOctets}
use Rattle.standing.proofs.Passed.{behind, said}
use Rattle.standing.proofs.Put.{put_none, put_more, put_length, put_stored}
use Rattle.reading.specs.Reading.{reading, start, Settled, seen}
use Rattle.reading.specs.declared.Reading.{Reading}
use Rattle.reading.specs.declared.Seen.{Seen}
use Rattle.reading.specs.declared.Seen.TheVariants.{Passes, Closes, Misplaced, NoGrid, Clean, InputOver, Unreadable}
use Rattle.reading.proofs.Moves.{passes_reads, passes_settled, closes_between, closes_settled, seen_again}
use Rattle.reading.proofs.Told.{told_from, told_by, told_next, told_start}
use Rattle.index.specs.Outcome.{Outcome, refused_there}

-- by cases on a test, for two choices
pub by_test_2 : {A B : Type 0} (P : A → B → Type 0) (t : Bool) {a c : A} {b d : B} → (t ≡ true → P a b) → (t ≡ false → P c d)
    → P (pick t a c) (pick t b d)
by_test_2 P true then else = then refl
by_test_2 P false then else = else refl

module _ {A : Type 0} (width : ℕ) (encode : Line → List A) (wide : (l : Line) → length (encode l) ≡ width) where
  -- the elements of all lines, in order
  unfoldable pub encoded : List Line → List A
  encoded [] = []
  encoded (l ∷ more) = encode l ++ encoded more

  encoded_one : (l : Line) → encoded (l ∷ []) ≡ encode l
  unfolding encoded
  encoded_one l = append-nil (encode l)

  encoded_more : (l : Line) (more : List Line) → encoded (l ∷ more) ≡ encode l ++ encoded more
  unfolding encoded
  encoded_more l more = refl

  -- what comes of a walk: the counts, how it ended, and both tables
  pub record Out : Type 0 where
    pub sections : ℕ
    pub submessages : ℕ
    pub messages : ℕ
    pub outcome : Outcome
    pub rows : List ℕ
    pub lines : List A

  abbrev pub result : ℕ → ℕ → ℕ → Outcome → List ℕ → List A → Out
  result sections submessages messages end rows lines =
      record {
        sections = sections;
        submessages = submessages;
        messages = messages;
        outcome = end;
        rows = rows;
        lines = lines;
      }

  -- .. that has reached r, with these tables, and tells this from there on
  unfoldable pub out : Reached → Told → List ℕ → List A → Out
  out r told rows lines =
      result (r.sections + length told.sections) (r.lines + length told.lines) (r.force.message + told.messages) told.outcome
      (put_at (r.sections * 3) (rows_of told.sections) rows) (put_at (r.lines * width) (encoded told.lines) lines)

  -- equal parts make equal outs
  alike : {a a' b b' c c' : ℕ} {o : Outcome} {rows rows' : List ℕ} {lines lines' : List A} → a ≡ a' → b ≡ b' → c ≡ c' → rows ≡ rows' → lines ≡ lines'
      → result a b c o rows lines ≡ result a' b' c' o rows' lines'
  alike p q r s t = cc

  one_more : (n : ℕ) → (n + 1) * width ≡ n * width + width
  one_more n = add-mul n 1 width ∙ ap (λ (k : ℕ). n * width + k) (one-mul width)

  -- nothing more is told ..
  out_ends : (r : Reached) (end : Outcome) (rows : List ℕ) (lines : List A)
      → out r (ends end) rows lines ≡ result r.sections r.lines r.force.message end rows lines
  unfolding out encoded rows_of
  out_ends r end rows lines =
      rw (add-zero r.sections, add-zero r.lines, add-zero r.force.message, put_none (r.sections * 3) rows, put_none (r.lines * width) lines)

  -- .. or a line first
  abbrev pub line_first : Line → Told → Told
  line_first l told = record { sections = told.sections; lines = l ∷ told.lines; messages = told.messages; outcome = told.outcome }

  out_line : (r : Reached) (l : Line) (told : Told) (rows : List ℕ) (lines : List A) (q : Reached)
      → q.sections ≡ r.sections → q.lines ≡ r.lines + 1 → q.force.message ≡ r.force.message
      → r.lines * width + width ≤ length lines
      → out r (line_first l told) rows lines ≡ out q told rows (put_at (r.lines * width) (encode l) lines)
  unfolding out
  out_line r l told rows lines q a b c fits =
      alike (ap (λ (n : ℕ). n + length told.sections) (sym a)) (omega (arith, b))
      (ap (λ (n : ℕ). n + told.messages) (sym c)) (ap (λ (n : ℕ). put_at (n * 3) (rows_of told.sections) rows) (sym a))
      (ap (λ (x : List A). put_at i x lines) (encoded_more l told.lines)
      ∙ sym (put_more i (encode l) (encoded told.lines) lines (rw (wide l) fits))
      ∙ ap (λ (k : ℕ). put_at k (encoded told.lines) (put_at i (encode l) lines)) (sym behind))
    where
      i : ℕ
      i = r.lines * width

      behind : q.lines * width ≡ i + length (encode l)
      behind = ap (λ (n : ℕ). n * width) b ∙ one_more r.lines ∙ ap (λ (n : ℕ). i + n) (sym (wide l))

  -- a section is passed
  abbrev pub section_first : Section → ℕ → Told → Told
  section_first s closed told =
      record { sections = s ∷ told.sections; lines = told.lines; messages = closed + told.messages; outcome = told.outcome }

  out_section : (r : Reached) (s : Section) (closed : ℕ) (told : Told) (rows : List ℕ) (lines : List A) (q : Reached)
      → q.sections ≡ r.sections + 1 → q.lines ≡ r.lines → q.force.message ≡ r.force.message + closed
      → r.sections < length rows / 3
      → out r (section_first s closed told) rows lines
      ≡ out q told (put_at (r.sections * 3) (s.number ∷ s.offset.0 ∷ s.length ∷ []) rows) lines
  unfolding out rows_of
  out_section r s closed told rows lines q a b c fits =
      alike (omega (arith, a)) (ap (λ (n : ℕ). n + length told.lines) (sym b))
      (sym (ap (λ (n : ℕ). n + told.messages) c ∙ add_assoc r.force.message closed told.messages))
      (sym (put_more i (s.number ∷ s.offset.0 ∷ s.length ∷ []) (rows_of told.sections) rows (omega arith))
      ∙ ap (λ (k : ℕ). put_at k (rows_of told.sections) (put_at i (s.number ∷ s.offset.0 ∷ s.length ∷ []) rows)) there)
      (ap (λ (n : ℕ). put_at (n * width) (encoded told.lines) lines) (sym b))
    where
      i : ℕ
      i = r.sections * 3

      there : i + 3 ≡ q.sections * 3
      there = omega (arith, a)

-- a section that comes in force leaves the message's and the submessage's number
same_message : (f : Force) (number : ℕ) (at : Place)
    → ((in_force f number at).message ≡ f.message) × ((in_force f number at).submessage ≡ f.submessage)
unfolding in_force
same_message f number at =
    by_test Same (eqb number 2) (λ e. (refl, refl)) λ e. by_test Same (ltb number 8) (λ e. (refl, refl)) λ e. (refl, refl)
  where
    Same : Force → Type 0
    Same g = (g.message ≡ f.message) × (g.submessage ≡ f.submessage)

pub none : (number : ℕ) → completes SubmessageStart number ≡ false
unfolding completes
none number = refl

-- at a submessage's start a message is open
started : (cursor : Cursor) → Settled (reading cursor SubmessageStart)
unfolding is_between
started cursor e = absurd (false≢true e)

-- what the loop keeps, with room for so many lines
module _ {A : Type 0} (width : ℕ) (encode : Line → List A) (wide : (l : Line) → length (encode l) ≡ width) (file rows₀ : List ℕ)
    (lines₀ : List A) (most : ℕ) (enough : most * width ≤ length lines₀) where
  abbrev pub room : Room
  room = record { rows = length rows₀ / 3; lines = most }

  -- what the walk means
  abbrev pub meant : Out width encode wide
  meant = out width encode wide (at_start file) (walked room file) rows₀ lines₀

  abbrev told : Told
  told = walked room file

  -- .. is what it tells, stored over what was lent
  pub is_told : meant
      ≡ result width encode wide (length told.sections) (length told.lines) told.messages told.outcome
      (stored_over (rows_of told.sections) rows₀) (stored_over (encoded width encode wide told.lines) lines₀)
  unfolding out
  is_told =
      alike width encode wide (zero-add (length told.sections)) (zero-add (length told.lines)) (zero-add told.messages)
      (put_stored (rows_of told.sections) rows₀)
      (ap (λ (i : ℕ). put_at i (encoded width encode wide told.lines) lines₀) (zero-mul width)
      ∙ put_stored (encoded width encode wide told.lines) lines₀)

  -- this file is walked, which is a list of octets; what is to come, put onto what stands, is what the walk means; no message and no submessage
  -- is without a line; between messages nothing of one is to come
  pub record Kept (r : Reached) (cursor : Cursor) (rows : List ℕ) (lines : List A) : Type 0 where
    pub same_file : r.file ≡ file
    pub octets : IsOctets file
    pub same_rows : length rows ≡ length rows₀
    pub same_lines : length lines ≡ length lines₀
    pub comes : out width encode wide r (told_from file room r cursor) rows lines ≡ meant
    pub messages : r.force.message ≤ r.lines
    pub submessages : r.force.submessage ≤ r.lines
    pub settled : Settled (reading cursor r.order)

  pub begins : IsOctets file → length file ≤ most_octets → Kept (at_start file) start.cursor rows₀ lines₀
  begins octets short =
      record {
        same_file = refl;
        octets = octets;
        same_rows = refl;
        same_lines = refl;
        comes = ap (λ (t : Told). out width encode wide (at_start file) t rows₀ lines₀) (sym (told_start file room ∙ simp (le-ltb _ _ short)));
        messages = omega arith;
        submessages = omega arith;
        settled = λ between. refl;
      }

  pub too_long : most_octets < length file
      → meant ≡ result width encode wide 0 0 0 (Err (refused_there refusal.FileTooLong (place 0) (record { 0 = 0 }))) rows₀ lines₀
  too_long long =
      ap (λ (t : Told). out width encode wide (at_start file) t rows₀ lines₀) (told_start file room ∙ simp (lt-ltb _ _ long))
      ∙ out_ends width encode wide (at_start file) _ rows₀ lines₀

  module _ {r : Reached} {cursor : Cursor} {rows : List ℕ} {lines : List A} (kept : Kept r cursor rows lines) where
    -- the walk ends here
    abbrev pub Ends : Outcome → Type 0
    Ends end = meant ≡ result width encode wide r.sections r.lines r.force.message end rows lines

    by : {v : Seen} → seen file (reading cursor r.order) ≡ v → meant ≡ out width encode wide r (told_by file room r v) rows lines
    by e =
        sym kept.comes
        ∙ ap (λ (t : Told). out width encode wide r t rows lines) (told_next file room r cursor kept.settled ∙ ap (told_by file room r) e)

    ends_by : {v : Seen} {end : Outcome} → seen file (reading cursor r.order) ≡ v → told_by file room r v ≡ ends end → Ends end
    ends_by {end = end} e f = by e ∙ ap (λ (t : Told). out width encode wide r t rows lines) f ∙ out_ends width encode wide r end rows lines

    -- by what is seen, where no table has a say
    pub clean : seen file (reading cursor r.order) ≡ Clean → Ends (Ok tt)
    unfolding told_by
    clean e = ends_by e refl

    pub input_over_lem : seen file (reading cursor r.order) ≡ InputOver
        → Ends (Err (refused_there refusal.InputOver r.last.place r.last.section.offset))
    unfolding told_by
    input_over_lem e = ends_by e refl

    pub unreadable : {fault : Fault} {offset : Offset} → seen file (reading cursor r.order) ≡ Unreadable fault offset
        → Ends (Err (refused_there (refusal.Unreadable fault) (place r.sections) offset))
    unfolding told_by
    unreadable e = ends_by e refl

    pub no_grid : {s : Section} → seen file (reading cursor r.order) ≡ NoGrid s
        → Ends (Err (refused_there (refusal.NoGrid s.number) (place r.sections) s.offset))
    unfolding told_by
    no_grid e = ends_by e refl

    pub misplaced : {s : Section} → seen file (reading cursor r.order) ≡ Misplaced s → completes r.order s.number ≡ false
        → Ends (Err (refused_there (refusal.Misplaced s.number) (place r.sections) s.offset))
    unfolding told_by
    misplaced e c = ends_by e (rw c)

    -- 14, where a submessage that goes on has no room for its line
    pub no_line : {s : Section} {next : Reading} → seen file (reading cursor r.order) ≡ Passes s next → completes r.order s.number ≡ true
        → most ≤ r.lines → Ends (Err (refused_there refusal.SubmessageTableFull (place r.sections) s.offset))
    unfolding told_by
    no_line e c full = ends_by e (rw (c, le-leb _ _ full))

    pub no_line_misplaced : {s : Section} → seen file (reading cursor r.order) ≡ Misplaced s → completes r.order s.number ≡ true
        → most ≤ r.lines → Ends (Err (refused_there refusal.SubmessageTableFull (place r.sections) s.offset))
    unfolding told_by
    no_line_misplaced e c full = ends_by e (rw (c, le-leb _ _ full))

    -- 13, at a section that fits
    pub no_row : {s : Section} {next : Reading} → seen file (reading cursor r.order) ≡ Passes s next → completes r.order s.number ≡ false
        → length rows₀ / 3 ≤ r.sections → Ends (Err (refused_there refusal.SectionTableFull (place r.sections) s.offset))
    unfolding told_by fitted
    no_row e c full = ends_by e (rw (c, le-leb _ _ full))

    -- 13, then 14, at the section 8 that closes
    pub no_row_closing : {s : Section} {next : Reading} → seen file (reading cursor r.order) ≡ Closes s next
        → length rows₀ / 3 ≤ r.sections → Ends (Err (refused_there refusal.SectionTableFull (place r.sections) s.offset))
    unfolding told_by closing
    no_row_closing e full = ends_by e (rw (le-leb _ _ full))

    pub no_line_closing : {s : Section} {next : Reading} → seen file (reading cursor r.order) ≡ Closes s next
        → r.sections < length rows₀ / 3 → most ≤ r.lines
        → Ends (Err (refused_there refusal.SubmessageTableFull (place r.sections) s.offset))
    unfolding told_by closing
    no_line_closing e free full = ends_by e (rw (lt-leb _ _ free, le-leb _ _ full))

    in_rows : r.sections < length rows₀ / 3 → r.sections < length rows / 3
    in_rows free = rw kept.same_rows free

    in_lines : r.lines < most → r.lines * width + width ≤ length lines
    in_lines free =
        let below = mul-le-mul_right {m = r.lines + 1} {n = most} width (omega arith) in
        let more = one_more width encode wide r.lines in
        omega (arith, below, more, enough, kept.same_lines)

    -- a section that fits is passed
    pub passed : {s : Section} {next : Reading} (force : Force) → behind r.force s next.cursor (place r.sections) ≡ force
        → seen file (reading cursor r.order) ≡ Passes s next → completes r.order s.number ≡ false → r.sections < length rows₀ / 3
        → Kept
        (record { file = r.file; sections = r.sections + 1; lines = r.lines; last = here r s; order = next.order; force = force })
        next.cursor
        (put_at (r.sections * 3) (s.number ∷ s.offset.0 ∷ s.length ∷ []) rows)
        lines
    unfolding told_by fitted
    passed {s} {next} force f e c free =
        let same = same_message r.force s.number (place r.sections) in
        let message : force.message ≡ r.force.message = sym (ap (λ (g : Force). g.message) f) ∙ same.0 in
        let submessage : force.submessage ≡ r.force.submessage = sym (ap (λ (g : Force). g.submessage) f) ∙ same.1 in
        record {
          same_file = kept.same_file;
          octets = kept.octets;
          same_rows = put_length (r.sections * 3) (s.number ∷ s.offset.0 ∷ s.length ∷ []) rows (omega (arith, in_rows free)) ∙ kept.same_rows;
          same_lines = kept.same_lines;
          comes =
              sym
              (by e
              ∙ ap (λ (t : Told). out width encode wide r t rows lines) (first f)
              ∙ out_section width encode wide r s 0 (told_from file room q next.cursor) rows lines q refl refl (message ∙ sym (add-zero _)) (in_rows free));
          messages = rw message kept.messages;
          submessages = rw submessage kept.submessages;
          settled = passes_settled file (reading cursor r.order) kept.settled e;
        }
      where
        q : Reached
        q = record { file = r.file; sections = r.sections + 1; lines = r.lines; last = here r s; order = next.order; force = force }

        -- a section 0 says where its message stands
        in_force_lem : behind r.force s next.cursor (place r.sections) ≡ force → comes_in_force r.file r.force s (place r.sections) ≡ force
        in_force_lem f =
            ap (λ (x : Span). with_span (in_force r.force s.number (place r.sections)) x)
            (said cursor.at.0 cursor.rest kept.same_file kept.octets r.force.span (passes_reads file (reading cursor r.order) e))
            ∙ f

        first : behind r.force s next.cursor (place r.sections) ≡ force
            → told_by file room r (Passes s next) ≡ section_first width encode wide s 0 (told_from file room q next.cursor)
        first f = rw (c, lt-leb _ _ free, in_force_lem f)

    -- a message is closed
    pub closed : {s : Section} {next : Reading} → seen file (reading cursor r.order) ≡ Closes s next
        → r.sections < length rows₀ / 3 → r.lines < most
        → Kept
        (record {
          file = r.file;
          sections = r.sections + 1;
          lines = r.lines + 1;
          last = here r s;
          order = next.order;
          force = opened (r.force.message + 1);
        })
        next.cursor
        (put_at (r.sections * 3) (s.number ∷ s.offset.0 ∷ s.length ∷ []) rows)
        (put_at (r.lines * width) (encode (line_of r.force (Some (place r.sections)))) lines)
    unfolding told_by closing
    closed {s} {next} e free line =
        record {
          same_file = kept.same_file;
          octets = kept.octets;
          same_rows = put_length (r.sections * 3) (s.number ∷ s.offset.0 ∷ s.length ∷ []) rows (omega (arith, in_rows free)) ∙ kept.same_rows;
          same_lines = put_length (r.lines * width) (encode l) lines (rw (wide l) (in_lines line)) ∙ kept.same_lines;
          comes =
              sym
              (by e
              ∙ ap (λ (t : Told). out width encode wide r t rows lines) first
              ∙ out_section width encode wide r s 1 (line_first width encode wide l later) rows lines q₁ refl refl refl (in_rows free)
              ∙ out_line width encode wide q₁ l later rows' lines q refl refl refl (in_lines line));
          messages = omega (arith, kept.messages);
          submessages = omega arith;
          settled = closes_settled file (reading cursor r.order) kept.settled e;
        }
      where
        l : Line
        l = line_of r.force (Some (place r.sections))

        rows' : List ℕ
        rows' = put_at (r.sections * 3) (s.number ∷ s.offset.0 ∷ s.length ∷ []) rows

        q₁ : Reached
        q₁ = record { file = r.file; sections = r.sections + 1; lines = r.lines; last = here r s; order = next.order; force = opened (r.force.message + 1) }

        q : Reached
        q = record { file = r.file; sections = r.sections + 1; lines = r.lines + 1; last = here r s; order = next.order; force = opened (r.force.message + 1) }

        later : Told
        later = told_from file room q next.cursor

        first : told_by file room r (Closes s next) ≡ section_first width encode wide s 1 (line_first width encode wide l later)
        first = rw (lt-leb _ _ free, lt-leb _ _ line, closes_between file (reading cursor r.order) e)

    -- a submessage that goes on is told
    pub gone_on_lem : {s : Section} {next : Reading} → seen file (reading cursor r.order) ≡ Passes s next
        → completes r.order s.number ≡ true → r.lines < most
        → Kept (gone_on r) cursor rows (put_at (r.lines * width) (encode (line_of r.force None)) lines)
    unfolding told_by completes fitted
    gone_on_lem {s} {next} e c free =
        record {
          same_file = kept.same_file;
          octets = kept.octets;
          same_rows = kept.same_rows;
          same_lines = put_length (r.lines * width) (encode l) lines (rw (wide l) (in_lines free)) ∙ kept.same_lines;
          comes =
              sym
              (by e
              ∙ ap (λ (t : Told). out width encode wide r t rows lines) first
              ∙ out_line width encode wide r l (told_from file room (gone_on r) cursor) rows lines (gone_on r) refl refl refl (in_lines free));
          messages = omega (arith, kept.messages);
          submessages = omega (arith, kept.submessages);
          settled = started cursor;
        }
      where
        l : Line
        l = line_of r.force None

        later : Reached → Told
        later q = told_from file room q next.cursor

        split : followed r s (fitted room (gone_on r) s (l ∷ []) next.order) later
            ≡ line_first width encode wide l (followed (gone_on r) s (fitted room (gone_on r) s [] next.order) later)
        split = by_test_2 (λ (j k : Judgement). followed r s j later ≡ line_first width encode wide l (followed (gone_on r) s k later))
            (leb (length rows₀ / 3) r.sections) (λ t. refl) (λ t. refl)

        first : told_by file room r (Passes s next) ≡ line_first width encode wide l (told_from file room (gone_on r) cursor)
        first =
            rw (c, lt-leb _ _ free)
            (split
            ∙ ap (line_first width encode wide l)
            (sym (told_next file room (gone_on r) cursor (started cursor) ∙ ap (told_by file room (gone_on r)) (seen_again file cursor r.order e c))))

    -- .. also where the section after it is refused with 11
    pub misplaced_line : {s : Section} → seen file (reading cursor r.order) ≡ Misplaced s → completes r.order s.number ≡ true
        → r.lines < most
        → meant
        ≡ result width encode wide r.sections (r.lines + 1) r.force.message
        (Err (refused_there (refusal.Misplaced s.number) (place r.sections) s.offset))
        rows
        (put_at (r.lines * width) (encode (line_of r.force None)) lines)
    unfolding told_by
    misplaced_line {s} e c free =
        by e
        ∙ ap (λ (t : Told). out width encode wide r t rows lines) first
        ∙ out_line width encode wide r l (ends end) rows lines (gone_on r) refl refl refl (in_lines free)
        ∙ out_ends width encode wide (gone_on r) end rows (put_at (r.lines * width) (encode l) lines)
      where
        l : Line
        l = line_of r.force None

        end : Outcome
        end = Err (refused_there (refusal.Misplaced s.number) (place r.sections) s.offset)

        first : told_by file room r (Misplaced s) ≡ line_first width encode wide l (ends end)
        first = rw (c, lt-leb _ _ free)

  -- the section behind a submessage that goes on is passed, or finds the table full
  module _ {r : Reached} {cursor : Cursor} {rows : List ℕ} {lines : List A} (kept : Kept r cursor rows lines) where
    pub passed_behind : {s : Section} {next : Reading} (force : Force) → behind (gone_on r).force s next.cursor (place r.sections) ≡ force
        → seen file (reading cursor r.order) ≡ Passes s next → completes r.order s.number ≡ true → r.lines < most
        → r.sections < length rows₀ / 3
        → Kept
        (record { file = r.file; sections = r.sections + 1; lines = r.lines + 1; last = here r s; order = next.order; force = force })
        next.cursor
        (put_at (r.sections * 3) (s.number ∷ s.offset.0 ∷ s.length ∷ []) rows)
        (put_at (r.lines * width) (encode (line_of r.force None)) lines)
    passed_behind {s} force f e c line free =
        passed (gone_on_lem kept e c line) force f (seen_again file cursor r.order e c) (none s.number) free

    pub no_row_behind : {s : Section} {next : Reading} → seen file (reading cursor r.order) ≡ Passes s next
        → completes r.order s.number ≡ true → r.lines < most → length rows₀ / 3 ≤ r.sections
        → meant
        ≡ result width encode wide r.sections (r.lines + 1) r.force.message
        (Err (refused_there refusal.SectionTableFull (place r.sections) s.offset))
        rows
        (put_at (r.lines * width) (encode (line_of r.force None)) lines)
    no_row_behind {s} e c line full = no_row (gone_on_lem kept e c line) (seen_again file cursor r.order e c) (none s.number) full
