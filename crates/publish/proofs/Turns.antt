-- On the way: from what is reached, the walk ends as the whole does.
use Rattle.std.specs.Prelude.{Ok, Err}
use mathlib.Core.Path.{◌≡◌, refl, sym, ap, subst, ◌∙◌}
use mathlib.Core.Bool.{true}
use mathlib.Core.List.{List}
use Prim.Native.Nat.{ℕ, ◌+◌, ◌≤◌, ◌<◌}
use native.Mathlib.Omega.{arith}
use lib.ListN.{length}
use Rattle.order.specs.Order.{is_between}
use Rattle.framing.specs.Framing.{read_at}
use Rattle.framing.specs.Listing.{Listing, listed_by}
use Rattle.framing.specs.declared.read.Section.{Section}
use Rattle.framing.specs.declared.read.Cursor.{Cursor}
use Rattle.framing.specs.Read.{Read}
use Rattle.framing.specs.Read as read
use Rattle.framing.proofs.Tests.{by_test}
use Rattle.framing.proofs.OneRead.{Reads, reads, goes}
use Rattle.framing.proofs.Listing.{listing_on, listing_next}
use Rattle.order.specs.declared.Place.{Place}
use Rattle.framing.specs.declared.read.Offset.{Offset}
use Rattle.index.specs.Lines.{place, unlisted}
use Rattle.index.specs.declared.listed.Listed.{Listed}
use Rattle.index.specs.declared.refusal.Refusal.{Refusal}
use Rattle.index.specs.Bounds.{most_octets, unlimited}
use Rattle.index.specs.Walk.{Reached, at_start, Told, concluded, walked_from, walked}
use Rattle.reading.specs.Reading.{reading, start, seen}
use Rattle.reading.specs.declared.Reading.{Reading}
use Rattle.reading.specs.declared.Seen.{Seen}
use Rattle.reading.proofs.Told.{told_from}
use Rattle.publish.proofs.Runs.{split}
use Rattle.reading.proofs.Untabled.{told_on, Bounded, Passes, first_told, first_bounded}
use Rattle.index.specs.Outcome.{Outcome, refused_there}

-- a refusal is no clean end
pub unclean : {o : Outcome} {why : Refusal} {at : Place} {offset : Offset} → o ≡ Err (refused_there why at offset) → o ≡ Ok tt → ⊥
unclean e f = let z : ◌≡◌ {A = ℕ} 0 1 = cc in omega arith

pub record OnWay (whole : Outcome) (file : List ℕ) (at : Reading) : Type 0 where
  pub r : Reached
  pub order : r.order ≡ at.order
  pub bounded : Bounded file r at.cursor
  pub comes : (told_on file r at.cursor).outcome ≡ whole

-- with the count and the section passed last
pub record Counting (whole : Outcome) (file : List ℕ) (at : Reading) (sections : ℕ) (last : Listed) : Type 0 where
  pub way : OnWay whole file at
  pub counted : way.r.sections ≡ sections
  pub passed : way.r.last ≡ last

-- what is seen there
pub sees : {whole : Outcome} {file : List ℕ} {at : Reading} {v : Seen} (way : OnWay whole file at) → seen file at ≡ v
    → seen file (reading at.cursor way.r.order) ≡ v
sees way e = rw way.order e

module _ (file : List ℕ) (fits : length file ≤ most_octets) where
  pub first_on_way : OnWay (walked unlimited file).outcome file start
  first_on_way =
      record {
        r = at_start file;
        order = refl;
        bounded = first_bounded file;
        comes = ap (λ (t : Told). t.outcome) (sym (first_told file fits));
      }

  pub first_counting : Counting (walked unlimited file).outcome file start 0 unlisted
  unfolding first_on_way
  first_counting = record { way = first_on_way; counted = refl; passed = refl }

  pub on_way : {whole : Outcome} {at next : Reading} {s : Section} (way : OnWay whole file at)
      → Passes file way.r at.cursor s next → OnWay whole file next
  on_way way p = record { r = p.q; order = p.order; bounded = p.bounded; comes = sym p.outcome ∙ way.comes }

  pub counting : {whole : Outcome} {at next : Reading} {s : Section} {sections : ℕ} {last : Listed} (c : Counting whole file at sections last)
      → Passes file c.way.r at.cursor s next
      → Counting whole file next (sections + 1) (record { place = place sections; section = s })
  unfolding on_way
  counting {s = s} c p =
      record {
        way = on_way c.way p;
        counted = p.placed ∙ ap (λ (n : ℕ). n + 1) c.counted;
        passed = p.last ∙ ap (λ (n : ℕ). record { place = place n; section = s }) c.counted;
      }

  -- past the end of file the walk ends, and clean only between messages
  past_end : (r : Reached) (cursor : Cursor) → length file < cursor.at.0 → (told_on file r cursor).outcome ≡ Ok tt
      → is_between r.order ≡ true
  unfolding told_from walked_from concluded
  past_end r cursor past clean =
      by_read (read_at file at rest) (reads file at rest)
      (subst (λ (l : Listing). (walked_from unlimited r l.sections l.ending).outcome ≡ Ok tt) (listing_next file at rest) clean)
    where
      at : ℕ
      at = cursor.at.0

      rest : ℕ
      rest = cursor.rest

      by_read : (found : Read) → Reads file at rest found
          → (walked_from unlimited r (listed_by found (listing_on file)).sections (listed_by found (listing_on file)).ending).outcome ≡ Ok tt
          → is_between r.order ≡ true
      by_read (read.Section s next) is e = absurd (omega (arith, (goes is).forward, (goes is).inside))
      by_read read.Over is e =
          by_test (λ (o : Outcome). o ≡ Ok tt → is_between r.order ≡ true) (is_between r.order) (λ between f. between)
          (λ inside f. absurd (unclean refl f)) e
      by_read (read.Refused fault offset) is e = absurd (unclean refl e)

  -- so on the way to a clean end a section that is passed lies whole in the file
  pub whole : {r : Reached} {cursor : Cursor} {s : Section} {next : Reading} → Passes file r cursor s next
      → (told_on file r cursor).outcome ≡ Ok tt → next.cursor.at.0 ≤ length file
  whole {next = next} p clean =
      split (length file) next.cursor.at.0
      (λ past.
      let eight = p.between (rw (← p.order) (past_end p.q next.cursor past (sym p.outcome ∙ clean))) in
      let common = goes p.is_read in
      omega (arith, common.whole (λ seven. omega arith), common.ends))
      (λ inside. inside)
