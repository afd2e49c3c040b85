-- The calls of a pull reader hand out what `Pull` says: the sections of the walk with unlimited tables, its refusal once, and then
-- "ended" for ever.
use Rattle.std.specs.Prelude.{Option, Some, None, Result, Ok, Err}
use mathlib.Core.Path.{◌≡◌, refl, sym, ap, ◌∙◌}
use mathlib.Core.Bool.{Bool, true, false}
use mathlib.Core.List.{List, [], ◌∷◌}
use Prim.Native.Nat.{ℕ, zero, suc, ◌+◌, ◌≤◌, ◌<◌}
use native.Mathlib.Omega.{arith}
use lib.Dec.{ltb}
use lib.ListN.{length}
use borrow.Author.Tests.{lt-ltb, le-ltb, ltb-false}
use Rattle.order.specs.declared.Place.{Place}
use Rattle.framing.specs.declared.read.Offset.{Offset}
use Rattle.framing.specs.declared.read.Section.{Section}
use Rattle.index.specs.Lines.{place}
use Rattle.index.specs.declared.refusal.Refusal.{Refusal}
use Rattle.index.specs.declared.refusal.Refusal.TheVariants as refusal
use Rattle.index.specs.Bounds.{most_octets, unlimited}
use Rattle.index.specs.Walk.{Reached, at_start, walked}
use Rattle.reading.specs.Reading.{reading, seen}
use Rattle.reading.specs.declared.Reading.{Reading}
use Rattle.reading.specs.declared.Seen.{Seen}
use Rattle.reading.specs.declared.Seen.TheVariants as seen
use Rattle.reading.proofs.Told.{told_start}
use Rattle.reading.proofs.Untabled as steps
use Rattle.reading.proofs.Untabled.{told_on, Bounded, Passes, Ends, first_told, first_bounded}
use Rattle.pull.specs.declared.Progress.{Progress}
use Rattle.pull.specs.declared.Pull.{Pull}
use Rattle.pull.specs.Calls.{first_of, further, handed_out, stopped, pull_by, pull_at, after_calls}
use Rattle.pull.specs.Pull.{ends_with, hands_out, pulled}
use Rattle.index.specs.Outcome.{Outcome, refused_there}
use Rattle.index.specs.declared.listed.Listed.{Listed}
use Rattle.index.specs.declared.refusal.Refused.{Refused}

-- ---- calls

-- the progress after so many calls, from a progress on
abbrev calls_from : ℕ → List ℕ → Progress → Progress
calls_from zero file p = p
calls_from (suc call) file p = calls_from call file (pull_at file p).next

-- what a call answers, counted from 0, from a progress on
abbrev answer_at : ℕ → List ℕ → Progress → Option (Result Listed Refused)
answer_at call file p = (pull_at file (calls_from call file p)).answer

-- the last call of some is a call after the others
one_later : (call : ℕ) (file : List ℕ) (p : Progress)
    → calls_from call file (pull_at file p).next ≡ (pull_at file (calls_from call file p)).next
one_later zero file p = refl
one_later (suc call) file p = one_later call file (pull_at file p).next

calls_are : (call : ℕ) (file : List ℕ) → after_calls call file ≡ calls_from call file (first_of file)
unfolding after_calls
calls_are zero file = refl
calls_are (suc call) file = ap (λ (p : Progress). (pull_at file p).next) (calls_are call file) ∙ sym (one_later call file (first_of file))

-- once the end is told, every call answers that
over_stays : (call : ℕ) (file : List ℕ) (p : Progress) → p.over ≡ true → answer_at call file p ≡ None
unfolding pull_at
over_stays zero file p e = rw e
over_stays (suc call) file p e = over_stays call file (pull_at file p).next (rw e)

-- how an outcome is told at first
abbrev end_of : Outcome → Option (Result Listed Refused)
end_of (Ok tt) = None
end_of (Err stop) = Some (Err stop)

-- a call that tells the end, and those after it
end_told : (call : ℕ) (file : List ℕ) (p : Progress) (o : Outcome) → pull_at file p ≡ stopped p (end_of o)
    → answer_at call file p ≡ ends_with o call
unfolding ends_with
end_told zero file p (Ok tt) q = ap (λ (r : Pull). r.answer) q
end_told zero file p (Err stop) q = ap (λ (r : Pull). r.answer) q
end_told (suc call) file p (Ok tt) q = over_stays call file (pull_at file p).next (rw q refl)
end_told (suc call) file p (Err stop) q = over_stays call file (pull_at file p).next (rw q refl)

-- ---- the sequence

-- the reading stands where the walk does that has reached r
record Stands (file : List ℕ) (p : Progress) : Type 0 where
  r : Reached
  order : r.order ≡ p.reading.order
  bounded : Bounded file r p.reading.cursor
  counted : r.sections ≡ p.place.0
  last : r.last ≡ p.last
  going : p.over ≡ false

-- a file that isn't too long
module _ (file : List ℕ) (fits : length file ≤ most_octets) where
  -- the calls from here on hand out what the walk tells from here on
  abbrev Hands : ℕ → (p : Progress) → Stands file p → Type 0
  Hands call p st =
      let told = told_on file st.r p.reading.cursor in
      answer_at call file p ≡ hands_out p.place.0 told.sections told.outcome call

  -- as far as a call later than the first asks
  abbrev Earlier : ℕ → Type 0
  Earlier zero = Unit {0}
  Earlier (suc call) = (p : Progress) (st : Stands file p) → Hands call p st

  module _ (call : ℕ) (p : Progress) (st : Stands file p) (again : Earlier call) where
    -- one call, by what is seen
    one_call : pull_at file p ≡ pull_by p (seen file p.reading)
    unfolding pull_at
    one_call = rw (st.going, le-ltb most_octets (length file) fits)

    ended : (o : Outcome) → Ends (told_on file st.r p.reading.cursor) o → pull_at file p ≡ stopped p (end_of o) → Hands call p st
    unfolding hands_out
    ended o e q = end_told call file p o q ∙ rw (e.none, e.outcome)

    on : further p.place ≡ place (p.place.0 + 1)
    unfolding further
    on = rw (lt-ltb p.place.0 18446744073709551615 (omega (arith, st.counted, st.bounded.inside, fits)))

    passed : (s : Section) (next : Reading) → Passes file st.r p.reading.cursor s next
        → pull_at file p ≡ handed_out p.place s next → Hands call p st
    unfolding hands_out
    passed s next g q = by_call call again
      where
        after : Progress
        after = record { reading = next; place = place (p.place.0 + 1); last = record { place = p.place; section = s }; over = false }

        goes : (pull_at file p).next ≡ after
        goes = ap (λ (r : Pull). r.next) q ∙ ap (λ (at : Place). record { reading = next; place = at; last = record { place = p.place; section = s }; over = false }) on

        there : Stands file after
        there =
            record {
              r = g.q;
              order = g.order;
              bounded = g.bounded;
              counted = g.placed ∙ ap (λ (n : ℕ). n + 1) st.counted;
              last = g.last ∙ ap (λ (n : ℕ). record { place = place n; section = s }) st.counted;
              going = refl;
            }

        by_call : (call : ℕ) → Earlier call → Hands call p st
        by_call zero again = ap (λ (r : Pull). r.answer) q ∙ rw g.sections
        by_call (suc call) again =
            ap (λ (n : Progress). answer_at call file n) goes ∙ again after there ∙ rw (g.sections, g.outcome)

    -- what is seen where the walk stands
    sees : {v : Seen} → seen file p.reading ≡ v → seen file (reading p.reading.cursor st.r.order) ≡ v
    sees e = rw st.order e

    by_seen_lem : (v : Seen) → seen file p.reading ≡ v → pull_at file p ≡ pull_by p v → Hands call p st
    unfolding pull_by
    by_seen_lem (seen.Passes s next) e q = passed s next (steps.passes file fits st.r p.reading.cursor st.bounded (sees e)) q
    by_seen_lem (seen.Closes s next) e q = passed s next (steps.closes file fits st.r p.reading.cursor st.bounded (sees e)) q
    by_seen_lem (seen.Misplaced s) e q =
        ended _ (steps.misplaced file fits st.r p.reading.cursor st.bounded (sees e)) (q ∙ rw st.counted)
    by_seen_lem (seen.NoGrid s) e q =
        ended _ (steps.no_grid file fits st.r p.reading.cursor st.bounded (sees e)) (q ∙ rw st.counted)
    by_seen_lem seen.Clean e q = ended _ (steps.clean file fits st.r p.reading.cursor st.bounded (sees e)) q
    by_seen_lem seen.InputOver e q =
        ended _ (steps.input_over_lem file fits st.r p.reading.cursor st.bounded (sees e)) (q ∙ rw st.last)
    by_seen_lem (seen.Unreadable fault offset) e q =
        ended _ (steps.unreadable file fits st.r p.reading.cursor st.bounded (sees e)) (q ∙ rw st.counted)

  hands_from : (call : ℕ) (p : Progress) (st : Stands file p) → Hands call p st
  hands_from zero p st = by_seen_lem zero p st tt (seen file p.reading) refl (one_call zero p st tt)
  hands_from (suc call) p st = by_seen_lem (suc call) p st (hands_from call) (seen file p.reading) refl (one_call (suc call) p st (hands_from call))

-- ---- from a file's start on

-- a file that is too long
too_long : (file : List ℕ) → ltb most_octets (length file) ≡ true
    → pull_at file (first_of file) ≡ stopped (first_of file) (Some (Err (refused_there refusal.FileTooLong (place 0) (record { 0 = 0 }))))
unfolding pull_at first_of
too_long file e = rw e

refused_first : (file : List ℕ) (call : ℕ) → ltb most_octets (length file) ≡ true
    → answer_at call file (first_of file) ≡ hands_out 0 (walked unlimited file).sections (walked unlimited file).outcome call
unfolding hands_out
refused_first file call e =
    end_told call file (first_of file) (Err (refused_there refusal.FileTooLong (place 0) (record { 0 = 0 }))) (too_long file e)
    ∙ rw (told_start file unlimited, e)

-- one that isn't
at_first : (file : List ℕ) → Stands file (first_of file)
unfolding first_of
at_first file = record { r = at_start file; order = refl; bounded = first_bounded file; counted = refl; last = refl; going = refl }

handed_first : (file : List ℕ) (call : ℕ) → length file ≤ most_octets
    → answer_at call file (first_of file) ≡ hands_out 0 (walked unlimited file).sections (walked unlimited file).outcome call
unfolding first_of at_first
handed_first file call fits = hands_from file fits call (first_of file) (at_first file) ∙ rw (first_told file fits)

-- each call hands out what `Pull` says
pub sequence : (file : List ℕ) → (call : ℕ) → (pull_at file (after_calls call file)).answer ≡ pulled file call
unfolding pulled
sequence file call = ap (λ (p : Progress). (pull_at file p).answer) (calls_are call file) ∙ by_length (ltb most_octets (length file)) refl
  where
    by_length : (t : Bool) → ltb most_octets (length file) ≡ t
        → answer_at call file (first_of file) ≡ hands_out 0 (walked unlimited file).sections (walked unlimited file).outcome call
    by_length true e = refused_first file call e
    by_length false e = handed_first file call (ltb-false most_octets (length file) e)

-- ---- after the end

-- once a call answered "ended", every later one does
ends_later : (o : Outcome) (call later : ℕ) → call ≤ later → ends_with o call ≡ None → ends_with o later ≡ None
unfolding ends_with
ends_later (Ok tt) call later h e = refl
ends_later (Err stop) zero later h e = absurd (let z : ◌≡◌ {A = ℕ} 0 1 = cc in omega arith)
ends_later (Err stop) (suc call) zero h e = absurd (omega arith)
ends_later (Err stop) (suc call) (suc later) h e = refl

hands_later : (at : ℕ) (sections : List Section) (o : Outcome) (call later : ℕ) → call ≤ later
    → hands_out at sections o call ≡ None → hands_out at sections o later ≡ None
unfolding hands_out
hands_later at [] o call later h e = ends_later o call later h e
hands_later at (s ∷ more) o zero later h e = absurd (let z : ◌≡◌ {A = ℕ} 0 1 = cc in omega arith)
hands_later at (s ∷ more) o (suc call) zero h e = absurd (omega arith)
hands_later at (s ∷ more) o (suc call) (suc later) h e = hands_later (at + 1) more o call later (omega arith) e

pub ended_stays : (file : List ℕ) (call later : ℕ) → call ≤ later → (pull_at file (after_calls call file)).answer ≡ None
    → (pull_at file (after_calls later file)).answer ≡ None
unfolding pulled
ended_stays file call later h e =
    sequence file later
    ∙ hands_later 0 (walked unlimited file).sections (walked unlimited file).outcome call later h (sym (sequence file call) ∙ e)

-- every call after a refusal answers "ended"
ends_after : (o : Outcome) (call later : ℕ) (why : Refusal) (at : Place) (offset : Offset) → call < later
    → ends_with o call ≡ Some (Err (refused_there why at offset)) → ends_with o later ≡ None
unfolding ends_with
ends_after (Ok tt) call later why at offset h e = refl
ends_after (Err stop) call zero why at offset h e = absurd (omega arith)
ends_after (Err stop) call (suc later) why at offset h e = refl

hands_after : (n : ℕ) (sections : List Section) (o : Outcome) (call later : ℕ) (why : Refusal) (at : Place) (offset : Offset)
    → call < later → hands_out n sections o call ≡ Some (Err (refused_there why at offset)) → hands_out n sections o later ≡ None
unfolding hands_out
hands_after n [] o call later why at offset h e = ends_after o call later why at offset h e
hands_after n (s ∷ more) o zero later why at offset h e = absurd (let z : ◌≡◌ {A = ℕ} 0 1 = cc in omega arith)
hands_after n (s ∷ more) o (suc call) zero why at offset h e = absurd (omega arith)
hands_after n (s ∷ more) o (suc call) (suc later) why at offset h e =
    hands_after (n + 1) more o call later why at offset (omega arith) e

pub refused_ends : (file : List ℕ) (call later : ℕ) (why : Refusal) (at : Place) (offset : Offset) → call < later
    → (pull_at file (after_calls call file)).answer ≡ Some (Err (refused_there why at offset)) → (pull_at file (after_calls later file)).answer ≡ None
unfolding pulled
refused_ends file call later why at offset h e =
    sequence file later
    ∙ hands_after 0 (walked unlimited file).sections (walked unlimited file).outcome call later why at offset h
    (sym (sequence file call) ∙ e)
