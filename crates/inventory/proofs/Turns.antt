-- The turns of the loop: so far the lines told are written, and what is remembered makes the next one.
use Rattle.std.specs.Prelude.{Some, None, Ok, Err}
use Prim.Native.Nat.{ℕ, ◌+◌, ◌*◌, ◌-◌, ◌≤◌, ◌<◌}
use native.Mathlib.Omega.{arith}
use mathlib.Core.Path.{◌≡◌, refl, sym, ap, ap₂, subst, ◌∙◌}
use mathlib.Core.List.{List, [], ◌∷◌, ◌++◌, append-nil, append_assoc}
use native.Mathlib.Nat.{add-zero}
use lib.ListN.{length, take, drop, length-append, take-append-drop}
use borrow.Author.Tests.{eq-eqb, ne_eqb}
use Rattle.octets.specs.Words.{Not}
use Rattle.framing.specs.declared.read.Section.{Section}
use Rattle.framing.specs.declared.read.Cursor.{Cursor}
use Rattle.framing.proofs.OneRead.{goes}
use Rattle.framing.proofs.Tests.{never_both}
use Rattle.order.specs.Order.{judged, completes, is_between}
use Rattle.order.specs.declared.Order.{Order}
use Rattle.order.specs.declared.Order.TheVariants.{BetweenMessages, AfterData, SubmessageStart}
use Rattle.order.specs.declared.Judged.{Judged}
use Rattle.order.specs.declared.Judged.TheVariants as says
use Rattle.order.proofs.Laws.{closes_only, completes_only, starts_next}
use Rattle.index.specs.Lines.{place, unlisted, opened, line_of}
use Rattle.index.specs.Bounds.{most_octets, unlimited}
use Rattle.index.specs.Walk.{Reached, at_start, comes_in_force, gone_on, Told, walked}
use Rattle.index.specs.Decoded.{decoded}
use Rattle.index.specs.declared.line.Force.{Force}
use Rattle.index.specs.declared.line.Line.{Line as SubmessageLine}
use Rattle.index.specs.declared.listed.Listed.{Listed}
use Rattle.index.specs.declared.refusal.Refused.{Refused}
use Rattle.index.proofs.Counted.{next_told}
use Rattle.index.proofs.Fitting.{Fitting, fitting}
use Rattle.reading.specs.Reading.{reading, start, seen}
use Rattle.reading.specs.declared.Reading.{Reading}
use Rattle.reading.specs.declared.Seen.{Seen}
use Rattle.reading.specs.declared.Seen.TheVariants as seen
use Rattle.reading.proofs.Moves.{passes_fits, closes_judged, closes_between}
use Rattle.reading.proofs.Untabled as steps
use Rattle.reading.proofs.Untabled.{told_on, Bounded, Passes, Moved, on_within, on_completing, on_closing, first_told, first_bounded}
use Rattle.entries.specs.Entries.{entry_line, text_of, most_line}
use Rattle.entries.specs.declared.Entry.{Entry}
use Rattle.inventory.specs.Inventory.{for_each, stands_at, entry_at, entries_of}
use Rattle.inventory.specs.Turn.{due_by, stopped_by}
use Rattle.inventory.specs.Memory.{memory_of, blank, with_section, remembered}
use Rattle.inventory.specs.Lines.{put_in_text, entries_in, due_entries, PutText, PutLines}
use Rattle.inventory.specs.declared.turn.Due.{Due}
use Rattle.inventory.specs.declared.turn.Due.TheVariants.{NoLine, Line, LastLine}
use Rattle.inventory.specs.declared.memory.Memory.{Memory}
use Rattle.inventory.proofs.Parts.{written_more}
use Rattle.inventory.proofs.Remembered.{memory_numbers, Remembered, comes, goes_on, closes, remembered_entry}
use Rattle.index.specs.Outcome.{Outcome}

-- what is in force behind a section, and the lines told because of it, by what was due
pub data DueOf (r : Reached) (s : Section) (next : Order) : Due → Force → List SubmessageLine → Type 0 where
  none : Fitting s.number r.order next → DueOf r s next NoLine (comes_in_force r.file r.force s (place r.sections)) []
  one : r.order ≡ AfterData → Fitting s.number SubmessageStart next
      → DueOf r s next Line (comes_in_force r.file (gone_on r).force s (place r.sections))
      (line_of r.force None ∷ [])
  last : r.order ≡ AfterData → next ≡ BetweenMessages
      → DueOf r s next LastLine (opened (r.force.message + 1))
      (line_of r.force (Some (place r.sections)) ∷ [])

-- a section that fits does not close its message
fits_or_closes : {j : Judged} {next : Order} → j ≡ says.Fits next → j ≡ says.Closes → ⊥
fits_or_closes p q = let z : ◌≡◌ {A = ℕ} 0 1 = cc in omega arith

passes_due : {r : Reached} {s : Section} {next : Order} {f : Force} {lines : List SubmessageLine} → Moved r s next f lines
    → judged r.order s.number ≡ says.Fits next → DueOf r s next (due_by (completes r.order s.number)) f lines
unfolding completes
passes_due {r} {s} (on_within off fits) e = rw off (none (fitting r.order s.number off fits))
passes_due {r} {s} (on_completing on fits) e =
    let (order, other) = completes_only r.order s.number on in
    rw on (one order (fitting SubmessageStart s.number refl (sym (starts_next s.number other) ∙ rw (← order) fits)))
passes_due (on_closing closed) e = absurd (fits_or_closes e closed)

closes_due : {r : Reached} {s : Section} {next : Order} {f : Force} {lines : List SubmessageLine} → Moved r s next f lines
    → judged r.order s.number ≡ says.Closes → next ≡ BetweenMessages → DueOf r s next LastLine f lines
closes_due (on_within off fits) e between = absurd (fits_or_closes fits e)
closes_due (on_completing on fits) e between = absurd (fits_or_closes fits e)
closes_due {r} {s} (on_closing closed) e between = last (closes_only r.order s.number closed).0 between

-- the entries of lines one behind the other, and their text
entries_append : (a b : List SubmessageLine) (f : SubmessageLine → List Entry) → for_each (a ++ b) f ≡ for_each a f ++ for_each b f
entries_append [] b f = refl
entries_append (line ∷ a) b f =
    ap (λ (l : List Entry). f line ++ l) (entries_append a b f) ∙ sym (append_assoc (f line) (for_each a f) (for_each b f))

text_append : (a b : List Entry) → text_of (a ++ b) ≡ text_of a ++ text_of b
unfolding text_of
text_append [] b = refl
text_append (e ∷ a) b = rw (text_append a b) (sym (append_assoc (entry_line e) (text_of a) (text_of b)))

module _ (file : List ℕ) where
  abbrev told : List Section
  told = (walked unlimited file).sections

  abbrev entries_for : List SubmessageLine → List Entry
  entries_for lines = for_each lines (entry_at (decoded file told))

  -- what is due is the entries of the lines told
  due_entries_lem : {r : Reached} {s : Section} {next : Order} {due : Due} {f : Force} {lines : List SubmessageLine} {m : Memory}
      → DueOf r s next due f lines → Remembered told r.order r.force m → entries_for lines ≡ due_entries file m due
  unfolding due_entries
  due_entries_lem (none fits) k = refl
  due_entries_lem {r} {m = m} (one order fits) k =
      append-nil _ ∙ remembered_entry file told None
      (subst (λ (o : Order). Remembered told o r.force m) order k)
  due_entries_lem {r} {m = m} (last order between) k =
      append-nil _ ∙ remembered_entry file told (Some (place r.sections))
      (subst (λ (o : Order). Remembered told o r.force m) order k)

  -- and the section is remembered
  due_remembered : {r : Reached} {s : Section} {next : Order} {due : Due} {f : Force} {lines : List SubmessageLine} {m : Memory}
      → DueOf r s next due f lines → Remembered told r.order r.force m → stands_at r.sections told ≡ s ∷ []
      → Remembered told next f (remembered due m s)
  unfolding remembered
  due_remembered {r} {s} {m = m} (none fits) k here = comes told r.file r.force m s r.sections here k fits
  due_remembered {r} {s} {m = m} (one order fits) k here =
      comes told r.file (gone_on r).force _ s r.sections here (goes_on told (subst (λ (o : Order). Remembered told o r.force m) order k)) fits
  due_remembered {r} {s} {next} {m = m} (last order between) k here =
      subst (λ (o : Order). Remembered told o (opened (r.force.message + 1)) (remembered LastLine m s)) (sym between) (closes told k)

  few_octets : {r : Reached} {s : Section} {next : Order} {due : Due} {f : Force} {lines : List SubmessageLine} (m : Memory)
      → DueOf r s next due f lines → length (text_of (due_entries file m due)) ≤ most_line
      → length (text_of (due_entries file m due)) ≤ most_line * length lines
  unfolding due_entries text_of
  few_octets m (none fits) short = omega arith
  few_octets m (one order fits) short = omega arith
  few_octets m (last order between) short = omega arith

  few_numbers : (due : Due) (m : Memory) (s : Section) (n : ℕ) → m.message ≤ n → m.submessage ≤ n
      → ((remembered due m s).message ≤ n + 1) × ((remembered due m s).submessage ≤ n + 1)
  unfolding remembered
  few_numbers NoLine m s n p q = let same = memory_numbers m s in (omega (arith, same.0), omega (arith, same.1))
  few_numbers Line m s n p q =
      let same = memory_numbers (record { message = m.message; submessage = m.submessage + 1; zeroth = m.zeroth; fourth = m.fourth }) s in
      (omega (arith, same.0), omega (arith, same.1))
  few_numbers LastLine m s n p q = (omega arith, omega arith)

-- in a turn
pub record Listing (file text₀ : List ℕ) (at : Reading) (count : ℕ) (before : Listed) (m : Memory) (octets : ℕ) (text : List ℕ) : Type 0 where
  pub r : Reached
  pub order : r.order ≡ at.order
  pub bounded : Bounded file r at.cursor
  pub outcome : (told_on file r at.cursor).outcome ≡ (walked unlimited file).outcome
  pub counted : r.sections ≡ count
  pub passed : r.last ≡ before
  pub rest : drop r.sections (told file) ≡ (told_on file r at.cursor).sections
  pub memory : Remembered (told file) r.order r.force m
  pub few : (m.message ≤ count) × (m.submessage ≤ count)
  -- the lines so far
  pub done : List ℕ
  pub whole : text_of (entries_of file) ≡ done ++ text_of (entries_for file (told_on file r at.cursor).lines)
  pub measured : octets ≡ length done
  pub short : octets ≤ most_line * r.lines
  pub same_length : length text ≡ length text₀
  pub written : octets ≤ length text₀ → text ≡ put_in_text text₀ 0 done

-- what is remembered may be written otherwise
pub remembering : {file text₀ : List ℕ} {at : Reading} {count : ℕ} {before : Listed} {m other : Memory} {octets : ℕ} {text : List ℕ} → m ≡ other
    → Listing file text₀ at count before m octets text → Listing file text₀ at count before other octets text
remembering {file} {text₀} {at} {count} {before} {octets = octets} {text = text} e k =
    subst (λ (x : Memory). Listing file text₀ at count before x octets text) e k

-- a refusal is no clean end
unclean : {stop : Refused} → ◌≡◌ {A = Outcome} (Err stop) (Ok tt) → ⊥
unclean e = let z : ◌≡◌ {A = ℕ} 0 1 = cc in omega arith

-- what a turn tells of the walk
pub record Turned (file : List ℕ) (r : Reached) (cursor : Cursor) (s : Section) (next : Reading) (due : Due) : Type 0 where
  pub step : Passes file r cursor s next
  pub due_of : DueOf r s next.order due step.q.force step.lines

-- what is due may be named otherwise
pub due_told : {file : List ℕ} {r : Reached} {cursor : Cursor} {s : Section} {next : Reading} {due other : Due} → other ≡ due
    → Turned file r cursor s next due → Turned file r cursor s next other
due_told {file} {r} {cursor} {s} {next} e t = subst (λ (d : Due). Turned file r cursor s next d) (sym e) t

-- no line is due
pub no_line : (file : List ℕ) (m : Memory) (octets : ℕ) (text : List ℕ) → PutText (text_of (due_entries file m NoLine)) octets text text octets
unfolding due_entries text_of put_in_text
no_line file m octets text =
    record { same_length = refl; short = omega arith; measured = omega arith; put = λ fits. sym (rw add-zero (take-append-drop octets text)) }

-- one is, of what is remembered
pub a_line : (file : List ℕ) (m : Memory) {octets end : ℕ} {text after : List ℕ} → PutText (text_of (entries_in file m)) octets text after end
    → PutText (text_of (due_entries file m Line)) octets text after end × PutText (text_of (due_entries file m LastLine)) octets text after end
unfolding due_entries
a_line file m put = (put, put)

-- what comes of a section 0, of a section 4 and of any other
pub remembers_0 : (m : Memory) (s : Section) → s.number ≡ 0 → remembered NoLine m s ≡ memory_of m.message m.submessage s m.fourth
unfolding remembered with_section
remembers_0 m s e = rw (eq-eqb s.number 0 e)

pub remembers_4 : (m : Memory) (s : Section) → Not (s.number ≡ 0) → s.number ≡ 4
    → remembered NoLine m s ≡ memory_of m.message m.submessage m.zeroth s
unfolding remembered with_section
remembers_4 m s other e = rw (ne_eqb s.number 0 other, eq-eqb s.number 4 e)

pub remembers_none : (m : Memory) (s : Section) → Not (s.number ≡ 0) → Not (s.number ≡ 4) → remembered NoLine m s ≡ m
unfolding remembered with_section
remembers_none m s other another = rw (ne_eqb s.number 0 other, ne_eqb s.number 4 another)

pub record Over (told : Told) (o : Outcome) : Type 0 where
  pub ends : told.outcome ≡ o
  pub no_lines : o ≡ Ok tt → told.lines ≡ []

-- by what is seen
abbrev By : List ℕ → Reached → Reading → ℕ → Listed → Seen → Type 0
By file r at count before (seen.Passes s next) = Turned file r at.cursor s next (due_by (completes at.order s.number))
By file r at count before (seen.Closes s next) = Turned file r at.cursor s next LastLine
By file r at count before (seen.Misplaced s) = Over (told_on file r at.cursor) (stopped_by (seen.Misplaced s) count before)
By file r at count before (seen.NoGrid s) = Over (told_on file r at.cursor) (stopped_by (seen.NoGrid s) count before)
By file r at count before seen.Clean = Over (told_on file r at.cursor) (stopped_by seen.Clean count before)
By file r at count before seen.InputOver = Over (told_on file r at.cursor) (stopped_by seen.InputOver count before)
By file r at count before (seen.Unreadable fault offset) =
    Over (told_on file r at.cursor) (stopped_by (seen.Unreadable fault offset) count before)

module _ (file text₀ : List ℕ) (fits : length file ≤ most_octets) where
  pub first : Listing file text₀ start 0 unlisted blank 0 text₀
  unfolding put_in_text is_between entries_of
  first =
      record {
        r = at_start file;
        order = refl;
        bounded = first_bounded file;
        outcome = ap (λ (t : Told). t.outcome) (sym (first_told file fits));
        counted = refl;
        passed = refl;
        rest = ap (λ (t : Told). t.sections) (first_told file fits);
        memory = record { room = refl; message = refl; submessage = refl; zeroth = λ ajar. absurd (never_both refl ajar); offset = λ ajar. absurd (never_both refl ajar); fourth = λ late. absurd (omega arith) };
        few = (omega arith, omega arith);
        done = [];
        whole = ap (λ (t : Told). text_of (entries_for file t.lines)) (first_told file fits);
        measured = refl;
        short = omega arith;
        same_length = refl;
        written = λ room. refl;
      }

  module _ {at : Reading} {count : ℕ} {before : Listed} {m : Memory} {octets : ℕ} {text : List ℕ}
      (k : Listing file text₀ at count before m octets text) where
    sees : {v : Seen} → seen file at ≡ v → seen file (reading at.cursor k.r.order) ≡ v
    sees e = rw k.order e

    over : {told : Told} {stop : Refused} → told.outcome ≡ Err stop → Over told (Err stop)
    over e = record { ends = e; no_lines = λ clean. absurd (unclean clean) }

    pub by_seen_lem : (v : Seen) → seen file at ≡ v → By file k.r at count before v
    unfolding stopped_by
    by_seen_lem (seen.Passes s next) e =
        let p = steps.passes file fits k.r at.cursor k.bounded (sees e) in
        record {
          step = p;
          due_of =
              subst (λ (o : Order). DueOf k.r s next.order (due_by (completes o s.number)) p.q.force p.lines) k.order
              (passes_due p.moved (passes_fits file (reading at.cursor k.r.order) k.bounded.settled (sees e)));
        }
    by_seen_lem (seen.Closes s next) e =
        let p = steps.closes file fits k.r at.cursor k.bounded (sees e) in
        let there = reading at.cursor k.r.order in
        record { step = p; due_of = closes_due p.moved (closes_judged file there k.bounded.settled (sees e)) (closes_between file there (sees e)) }
    by_seen_lem (seen.Misplaced s) e = over ((steps.misplaced file fits k.r at.cursor k.bounded (sees e)).outcome ∙ rw k.counted)
    by_seen_lem (seen.NoGrid s) e = over ((steps.no_grid file fits k.r at.cursor k.bounded (sees e)).outcome ∙ rw k.counted)
    by_seen_lem seen.Clean e =
        record {
          ends = (steps.clean file fits k.r at.cursor k.bounded (sees e)).outcome;
          no_lines = λ c. steps.clean_lines file fits k.r at.cursor k.bounded (sees e);
        }
    by_seen_lem seen.InputOver e = over ((steps.input_over_lem file fits k.r at.cursor k.bounded (sees e)).outcome ∙ rw k.passed)
    by_seen_lem (seen.Unreadable fault offset) e = over ((steps.unreadable file fits k.r at.cursor k.bounded (sees e)).outcome ∙ rw k.counted)

    -- what is seen is no section that passes or closes
    pub stops : (v : Seen) → seen file at ≡ v → ((s : Section) (next : Reading) → v ≡ seen.Passes s next → ⊥)
        → ((s : Section) (next : Reading) → v ≡ seen.Closes s next → ⊥)
        → Over (told_on file k.r at.cursor) (stopped_by v count before)
    stops (seen.Passes s next) e passes closes = absurd (passes s next refl)
    stops (seen.Closes s next) e passes closes = absurd (closes s next refl)
    stops (seen.Misplaced s) e passes closes = by_seen_lem (seen.Misplaced s) e
    stops (seen.NoGrid s) e passes closes = by_seen_lem (seen.NoGrid s) e
    stops seen.Clean e passes closes = by_seen_lem seen.Clean e
    stops seen.InputOver e passes closes = by_seen_lem seen.InputOver e
    stops (seen.Unreadable fault offset) e passes closes = by_seen_lem (seen.Unreadable fault offset) e

    -- a section is passed
    module _ {s : Section} {next : Reading} {due : Due} (t : Turned file k.r at.cursor s next due) where
      count_below : count < most_octets
      count_below = let common = goes t.step.is_read in omega (arith, k.bounded.sections, k.counted)

      pub few_before : (m.message < most_octets) × (m.submessage < most_octets)
      few_before = let low = count_below in (omega (arith, k.few.0), omega (arith, k.few.1))

      pub nearer : length file - next.cursor.at.0 < length file - at.cursor.at.0
      nearer = let common = goes t.step.is_read in omega arith

      here : stands_at k.r.sections (told file) ≡ s ∷ []
      here = ap (take 1) (k.rest ∙ t.step.sections)

      text_due : text_of (entries_for file (told_on file k.r at.cursor).lines)
          ≡ text_of (due_entries file m due) ++ text_of (entries_for file (told_on file t.step.q next.cursor).lines)
      text_due =
          let later = (told_on file t.step.q next.cursor).lines in
          ap (λ (l : List SubmessageLine). text_of (entries_for file l)) t.step.lines_told
          ∙ ap text_of (entries_append t.step.lines later (entry_at (decoded file (told file))))
          ∙ text_append (entries_for file t.step.lines) (entries_for file later)
          ∙ ap (λ (l : List Entry). text_of l ++ text_of (entries_for file later)) (due_entries_lem file t.due_of k.memory)

      pub turn : {octets' : ℕ} {text' : List ℕ} → PutText (text_of (due_entries file m due)) octets text text' octets'
          → Listing file text₀ next (count + 1) (record { place = place count; section = s }) (remembered due m s) octets' text'
      turn {octets'} {text'} put =
          let p = t.step in
          let due-text = text_of (due_entries file m due) in
          let (behind, more) = next_told (told file) k.r.sections s (told_on file p.q next.cursor).sections (k.rest ∙ p.sections) in
          record {
            r = p.q;
            order = p.order;
            bounded = p.bounded;
            outcome = sym p.outcome ∙ k.outcome;
            counted = p.placed ∙ ap (λ (n : ℕ). n + 1) k.counted;
            passed = p.last ∙ ap (λ (n : ℕ). record { place = place n; section = s }) k.counted;
            rest = ap (λ (n : ℕ). drop n (told file)) p.placed ∙ more;
            memory =
                subst (λ (o : Order). Remembered (told file) o p.q.force (remembered due m s)) (sym p.order)
                (due_remembered file t.due_of k.memory here);
            few = few_numbers file due m s count k.few.0 k.few.1;
            done = k.done ++ due-text;
            whole = k.whole ∙ ap (λ (l : List ℕ). k.done ++ l) text_due ∙ sym (append_assoc k.done due-text _);
            measured = put.measured ∙ ap (λ (n : ℕ). n + length due-text) k.measured ∙ sym (length-append k.done due-text);
            short = let few = few_octets file m t.due_of put.short in omega (arith, k.short, p.lined, put.measured);
            same_length = put.same_length ∙ k.same_length;
            written = λ room. written_now room;
          }
        where
          written_now : octets' ≤ length text₀ → text' ≡ put_in_text text₀ 0 (k.done ++ text_of (due_entries file m due))
          written_now room =
              let due-text = text_of (due_entries file m due) in
              put.put (omega (arith, k.same_length))
              ∙ ap₂ (λ (l : List ℕ) (n : ℕ). put_in_text l n due-text) (k.written (omega (arith, put.measured))) k.measured
              ∙ written_more text₀ k.done due-text (omega (arith, k.measured, put.measured))

    -- the walk is over
    pub ended : {o : Outcome} → Over (told_on file k.r at.cursor) o → PutLines file text₀ text (record { outcome = o; octets = octets })
    unfolding text_of
    ended {o} end =
        record {
          same_length = k.same_length;
          ends = sym end.ends ∙ k.outcome;
          measured = λ clean. k.measured ∙ ap length (sym (all clean));
          put = λ clean room. k.written room ∙ ap (put_in_text text₀ 0) (sym (all clean));
        }
      where
        all : o ≡ Ok tt → text_of (entries_of file) ≡ k.done
        all clean =
            k.whole ∙ ap (λ (l : List SubmessageLine). k.done ++ text_of (entries_for file l)) (end.no_lines clean) ∙ append-nil k.done
