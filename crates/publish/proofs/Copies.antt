-- The copy that the turns of the loop make, while the walk goes to a clean end: up to the cursor it is written, and which octets stay
-- from there on is told by what is left of the message in hand and by the sections to come.
use Rattle.std.specs.Prelude.{Option, Some, None, Ok}
use mathlib.Core.Path.{◌≡◌, refl, sym, ap, subst, ◌∙◌}
use mathlib.Core.Bool.{Bool, true, false}
use mathlib.Core.List.{List, [], ◌∷◌, ◌++◌}
use mathlib.Core.Logic.{◌⊎◌, inl, inr}
use Prim.Native.Nat.{ℕ, zero, suc, ◌+◌, ◌-◌, ◌≤◌, ◌<◌}
use native.Mathlib.Nat.{add-zero, zero-add}
use native.Mathlib.Omega.{arith}
use lib.ListN.{length, drop, get_or}
use Rattle.octets.specs.Words.{pick}
use Rattle.framing.specs.declared.read.Section.{Section}
use Rattle.framing.specs.declared.read.Cursor.{Cursor}
use Rattle.framing.proofs.OneRead.{goes}
use Rattle.framing.specs.Read as read
use Rattle.framing.proofs.OneRead.{Reads, reads_as, over_between, over_within}
use Rattle.index.specs.Bounds.{most_octets, unlimited}
use Rattle.index.specs.Walk.{Reached, at_start, Told, walked}
use Rattle.reading.specs.Reading.{start, seen}
use Rattle.reading.specs.declared.Reading.{Reading}
use Rattle.reading.specs.declared.Seen.{Seen}
use Rattle.reading.specs.declared.Seen.TheVariants as seen
use Rattle.reading.proofs.Moves.{clean_reads}
use Rattle.publish.specs.Values.{licensed}
use Rattle.publish.specs.Copy.{stays, blanked_from, public_copy}
use Rattle.publish.specs.Runs.{WroteRun, zeros, copied_octet, WroteSection, ToWrite}
use Rattle.publish.proofs.Runs.{wrote_none, wrote_as, wrote_both, wrote_list}
use Rattle.publish.specs.Passed.{passed_by}
use Rattle.reading.proofs.Untabled as steps
use Rattle.reading.proofs.Untabled.{told_on, Passes, first_told, first_bounded}
use Rattle.publish.proofs.Messages.{from_told, left, left_first, left_over, left_behind, left_here}
use Rattle.publish.proofs.Turns.{unclean, OnWay, sees, whole}
use Rattle.index.specs.Outcome.{Outcome}

-- the octets of a copy
module _ (keep : ℕ → Bool) where
  blanked_length : (i : ℕ) (file : List ℕ) → length (blanked_from keep i file) ≡ length file
  unfolding blanked_from
  blanked_length i [] = refl
  blanked_length i (octet ∷ more) = ap suc (blanked_length (i + 1) more)

  blanked_octet : (i : ℕ) (file : List ℕ) (k : ℕ) → get_or (blanked_from keep i file) k 0 ≡ pick (keep (i + k)) (get_or file k 0) 0
  unfolding blanked_from
  blanked_octet i [] k = go (keep (i + k))
    where
      go : (b : Bool) → ◌≡◌ {A = ℕ} 0 (pick b 0 0)
      go true = refl
      go false = refl
  blanked_octet i (octet ∷ more) zero = rw add-zero
  blanked_octet i (octet ∷ more) (suc k) =
      blanked_octet (i + 1) more k ∙ ap (λ (j : ℕ). pick (keep j) (get_or more k 0) 0) (omega arith)

-- an octet of a file's public copy
unfoldable pub stayed : List ℕ → ℕ → Bool
stayed file k = stays licensed file (walked unlimited file).sections k

unfoldable pub copied : List ℕ → ℕ → ℕ
copied file k = pick (stayed file k) (get_or file k 0) 0

-- in a turn: the copy stands up to the cursor, and it is known what stays from there on
pub record Copying (file d₀ : List ℕ) (at : Reading) (done : ℕ) (d : List ℕ) : Type 0 where
  pub way : OnWay (Ok tt) file at
  pub here : at.cursor.at.0 ≡ done
  pub inside : done ≤ length file
  pub written : WroteRun (copied file) 0 done d₀ d
  pub to_come : (k : ℕ) → done ≤ k
      → stayed file k ≡ left file at.cursor.at.0 at.cursor.rest (told_on file way.r at.cursor).sections k

-- what is seen passes a section, or ends the walk with nothing left
abbrev By : List ℕ → Reached → Cursor → Option (Section × Reading) → Type 0
By file r cursor (Some (s, next)) = Passes file r cursor s next
By file r cursor None = Unit

abbrev Left : List ℕ → Reached → Cursor → Option (Section × Reading) → Type 0
Left file r cursor (Some (s, next)) = Unit
Left file r cursor None = ((told_on file r cursor).sections ≡ []) × ((cursor.rest ≡ 0) ⊎ (length file ≤ cursor.at.0))

over_left : {file : List ℕ} {at rest : ℕ} → Reads file at rest read.Over → (rest ≡ 0) ⊎ (length file ≤ at)
over_left (over_between none nowhere) = inl none
over_left (over_within some past) = inr past

module _ (file : List ℕ) (fits : length file ≤ most_octets) {all : Outcome} (at : Reading) (way : OnWay all file at) where
  by_seen_lem : (v : Seen) → seen file at ≡ v → By file way.r at.cursor (passed_by v)
  unfolding passed_by
  by_seen_lem (seen.Passes s next) e = steps.passes file fits way.r at.cursor way.bounded (sees way e)
  by_seen_lem (seen.Closes s next) e = steps.closes file fits way.r at.cursor way.bounded (sees way e)
  by_seen_lem (seen.Misplaced s) e = tt
  by_seen_lem (seen.NoGrid s) e = tt
  by_seen_lem seen.Clean e = tt
  by_seen_lem seen.InputOver e = tt
  by_seen_lem (seen.Unreadable fault offset) e = tt

  left_seen : (v : Seen) → seen file at ≡ v → (told_on file way.r at.cursor).outcome ≡ Ok tt → Left file way.r at.cursor (passed_by v)
  unfolding passed_by
  left_seen (seen.Passes s next) e clean = tt
  left_seen (seen.Closes s next) e clean = tt
  left_seen (seen.Misplaced s) e clean =
      absurd (unclean (steps.misplaced file fits way.r at.cursor way.bounded (sees way e)).outcome clean)
  left_seen (seen.NoGrid s) e clean = absurd (unclean (steps.no_grid file fits way.r at.cursor way.bounded (sees way e)).outcome clean)
  left_seen seen.Clean e clean = (
    (steps.clean file fits way.r at.cursor way.bounded (sees way e)).none,
    over_left (reads_as file at.cursor.at.0 at.cursor.rest (clean_reads file at e)),
  )
  left_seen seen.InputOver e clean = absurd (unclean (steps.input_over_lem file fits way.r at.cursor way.bounded (sees way e)).outcome clean)
  left_seen (seen.Unreadable fault offset) e clean =
      absurd (unclean (steps.unreadable file fits way.r at.cursor way.bounded (sees way e)).outcome clean)

  pub passing : {s : Section} {next : Reading} → passed_by (seen file at) ≡ Some (s, next) → Passes file way.r at.cursor s next
  passing f = subst (By file way.r at.cursor) f (by_seen_lem (seen file at) refl)

  pub nothing_left : passed_by (seen file at) ≡ None → (told_on file way.r at.cursor).outcome ≡ Ok tt
      → ((told_on file way.r at.cursor).sections ≡ []) × ((at.cursor.rest ≡ 0) ⊎ (length file ≤ at.cursor.at.0))
  nothing_left f clean = subst (Left file way.r at.cursor) f (left_seen (seen file at) refl clean)

module _ (file d₀ : List ℕ) (fits : length file ≤ most_octets) where
  pub copying_first : (walked unlimited file).outcome ≡ Ok tt → Copying file d₀ start 0 d₀
  unfolding stayed
  copying_first clean =
      record {
        way = record { r = at_start file; order = refl; bounded = first_bounded file; comes = ap (λ (t : Told). t.outcome) (sym (first_told file fits)) ∙ clean };
        here = refl;
        inside = omega arith;
        written = wrote_none 0 d₀;
        to_come = λ k h. left_first file (walked unlimited file).sections k ∙ rw (first_told file fits);
      }

  -- a turn that passes a section
  module _ {at : Reading} {done : ℕ} {d : List ℕ} (before : Copying file d₀ at done d) {s : Section} {next : Reading}
      (p : Passes file before.way.r at.cursor s next) where
    -- it can be written
    pub to_write : length file ≤ length d₀ → ToWrite done s (length file) (length d)
    to_write room =
        let common = goes p.is_read in
        let end = whole file fits p before.way.comes in
        record {
          behind = omega (arith, before.here);
          whole = omega arith;
          roomy = omega (arith, before.written.same_length);
        }

    turn_here : (k : ℕ) → done ≤ k → k < next.cursor.at.0 → copied_octet file s k ≡ copied file k
    unfolding copied_octet copied
    turn_here k low high =
        ap (λ (t : Bool). pick t (get_or file k 0) 0)
        (sym
        (before.to_come k low
        ∙ ap (λ (l : List Section). left file at.cursor.at.0 at.cursor.rest l k) p.sections
        ∙ left_here file s next.cursor (told_on file p.q next.cursor).sections k p.is_read (from_told file _ next.cursor) high))

    behind : (k : ℕ) → next.cursor.at.0 ≤ k
        → stayed file k ≡ left file next.cursor.at.0 next.cursor.rest (told_on file p.q next.cursor).sections k
    behind k low =
        let common = goes p.is_read in
        before.to_come k (omega (arith, before.here))
        ∙ ap (λ (l : List Section). left file at.cursor.at.0 at.cursor.rest l k) p.sections
        ∙ left_behind file s next.cursor (told_on file p.q next.cursor).sections k p.is_read low

    pub copying_turn : {d' : List ℕ} → WroteSection file done s d d' → Copying file d₀ next next.cursor.at.0 d'
    copying_turn {d'} wrote =
        let common = goes p.is_read in
        let run : WroteRun (copied_octet file s) done next.cursor.at.0 d d' = rw common.ends wrote in
        record {
          way = record { r = p.q; order = p.order; bounded = p.bounded; comes = sym p.outcome ∙ before.way.comes };
          here = refl;
          inside = whole file fits p before.way.comes;
          written =
              wrote_both (omega arith) (omega (arith, before.here)) before.written (wrote_as (copied_octet file s) turn_here run);
          to_come = behind;
        }

    pub nearer : length file - next.cursor.at.0 < length file - at.cursor.at.0
    nearer = let common = goes p.is_read in omega arith

  -- behind the last section there are zeros, and then the copy stands
  pub copying_last : {at : Reading} {done : ℕ} {d d' : List ℕ} (before : Copying file d₀ at done d)
      → passed_by (seen file at) ≡ None → length file ≤ length d₀
      → WroteRun zeros done (length file) d d' → d' ≡ public_copy licensed file ++ drop (length file) d₀
  unfolding public_copy copied stayed
  copying_last {at} {done} {d' = d'} before ended room wrote =
      subst (λ (n : ℕ). n ≤ length d₀ → WroteRun (copied file) 0 n d₀ d' → d' ≡ copy ++ drop n d₀) (blanked_length keep 0 file)
      (wrote_list copy d₀ d' λ k. sym (blanked_octet keep 0 file k ∙ ap (λ (j : ℕ). pick (keep j) (get_or file k 0) 0) (zero-add k)))
      room
      (wrote_both (omega arith) before.inside before.written
      (wrote_as zeros (λ k low high. ap (λ (t : Bool). pick t (get_or file k 0) 0) (sym (none k low high))) wrote))
    where
      keep : ℕ → Bool
      keep = stays licensed file (walked unlimited file).sections

      copy : List ℕ
      copy = blanked_from keep 0 file

      none : (k : ℕ) → done ≤ k → k < length file → stayed file k ≡ false
      none k low high =
          let end = nothing_left file fits at before.way ended before.way.comes in
          before.to_come k low
          ∙ ap (λ (l : List Section). left file at.cursor.at.0 at.cursor.rest l k) end.0
          ∙ left_over file at.cursor.at.0 at.cursor.rest k end.1 (omega (arith, before.here)) high
