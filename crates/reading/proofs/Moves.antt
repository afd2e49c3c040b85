-- What a section that is seen tells of the read: it stands there, fits the order, and the next read is made behind it.
use mathlib.Core.Path.{◌≡◌, refl, sym, subst, ◌∙◌}
use mathlib.Core.Bool.{Bool, true, false}
use mathlib.Core.List.{List}
use Prim.Native.Nat.{ℕ, ◌+◌, ◌<◌, ◌≤◌}
use native.Mathlib.Omega.{arith}
use lib.Dec.{eqb}
use lib.ListN.{length}
use Rattle.octets.specs.Words.{pick}
use Rattle.order.specs.Order.{judged, judged_read, completes, is_between}
use Rattle.order.specs.declared.Order.{Order}
use Rattle.order.specs.declared.Order.TheVariants.{BetweenMessages, AfterData, SubmessageStart}
use Rattle.order.specs.declared.Judged.{Judged}
use Rattle.order.specs.declared.Judged.TheVariants as order
use Rattle.order.proofs.Laws.{fits_below, fits_open, closes_only, completes_only}
use Rattle.framing.specs.Framing.{read_at}
use Rattle.framing.specs.declared.read.Section.{Section}
use Rattle.framing.specs.declared.read.Cursor.{Cursor}
use Rattle.framing.specs.Read.{Read}
use Rattle.framing.specs.Read as read
use Rattle.framing.proofs.OneRead.{reads_as, goes, ends_with_8}
use Rattle.framing.proofs.Tests.{never_both}
use Rattle.reading.specs.Reading.{reading, Settled, seen_by_order, over_in, seen_by_read, seen}
use Rattle.reading.specs.declared.Reading.{Reading}
use Rattle.reading.specs.declared.Seen.{Seen}
use Rattle.reading.specs.declared.Seen.TheVariants.{Passes, Closes, Misplaced, NoGrid, Clean, InputOver, Unreadable}
use Rattle.reading.proofs.Between.{as_judged}

-- a section stands at the reading, and the next read is made behind it
pub record Stands (file : List ℕ) (at : ℕ) (s : Section) (next : Cursor) : Type 0 where
  pub inside : at < length file
  pub forward : at ≤ s.offset.0
  pub later : s.offset.0 + 4 ≤ next.at.0

stands : (file : List ℕ) (r : Reading) (s : Section) (next : Cursor)
    → read_at file r.cursor.at.0 r.cursor.rest ≡ read.Section s next → Stands file r.cursor.at.0 s next
stands file r s next e =
    let g = goes (reads_as file r.cursor.at.0 r.cursor.rest e) in
    record { inside = omega (arith, g.inside, g.forward); forward = g.forward; later = omega (arith, g.ends, g.long) }

-- what a section that is seen says of the read and of the order
abbrev Says : Read → Order → Seen → Type 0
Says found before (Passes s next) = (found ≡ read.Section s next.cursor) × (judged_read before s.number ≡ order.Fits next.order)
Says found before (Closes s next) =
    (found ≡ read.Section s next.cursor) × (next.order ≡ BetweenMessages) × (judged_read before s.number ≡ order.Closes)
Says found before (Misplaced s) = judged_read before s.number ≡ order.Misplaced
Says found before (NoGrid s) = Unit
Says found before Clean = found ≡ read.Over
Says found before InputOver = Unit
Says found before (Unreadable fault offset) = Unit

says_section : (before : Order) (j : Judged) (s : Section) (cursor : Cursor) → judged_read before s.number ≡ j
    → Says (read.Section s cursor) before (seen_by_order j s cursor)
unfolding seen_by_order
says_section before (order.Fits next) s cursor e = (refl, e)
says_section before order.Closes s cursor e = (refl, refl, e)
says_section before order.Misplaced s cursor e = e
says_section before order.NoGrid s cursor e = tt

says_over : (before : Order) (t : Bool) → Says read.Over before (pick t Clean InputOver)
says_over before true = refl
says_over before false = tt

says : (found : Read) (before : Order) → Says found before (seen_by_read found before)
unfolding seen_by_read over_in
says (read.Section s cursor) before = says_section before (judged_read before s.number) s cursor refl
says read.Over before = says_over before (is_between before)
says (read.Refused fault offset) before = tt

module _ (file : List ℕ) (r : Reading) where
  known : {v : Seen} → seen file r ≡ v → Says (read_at file r.cursor.at.0 r.cursor.rest) r.order v
  unfolding seen
  known e = subst (Says (read_at file r.cursor.at.0 r.cursor.rest) r.order) e (says (read_at file r.cursor.at.0 r.cursor.rest) r.order)

  pub passes_reads : {s : Section} {next : Reading} → seen file r ≡ Passes s next
      → read_at file r.cursor.at.0 r.cursor.rest ≡ read.Section s next.cursor
  passes_reads e = (known e).0

  pub closes_reads : {s : Section} {next : Reading} → seen file r ≡ Closes s next
      → read_at file r.cursor.at.0 r.cursor.rest ≡ read.Section s next.cursor
  closes_reads e = (known e).0

  pub clean_reads : seen file r ≡ Clean → read_at file r.cursor.at.0 r.cursor.rest ≡ read.Over
  clean_reads e = known e

  pub passes_stands : {s : Section} {next : Reading} → seen file r ≡ Passes s next → Stands file r.cursor.at.0 s next.cursor
  passes_stands {s} {next} e = stands file r s next.cursor (known e).0

  pub closes_stands : {s : Section} {next : Reading} → seen file r ≡ Closes s next → Stands file r.cursor.at.0 s next.cursor
  closes_stands {s} {next} e = stands file r s next.cursor (known e).0

  pub closes_between : {s : Section} {next : Reading} → seen file r ≡ Closes s next → next.order ≡ BetweenMessages
  closes_between e = (known e).1

  -- at a reading that a walk comes to, it is what the order lets come
  module _ (settled : Settled r) where
    pub passes_fits : {s : Section} {next : Reading} → seen file r ≡ Passes s next → judged r.order s.number ≡ order.Fits next.order
    passes_fits e = sym (as_judged file r settled (known e).0) ∙ (known e).1

    pub passes_kept : {s : Section} {next : Reading} → seen file r ≡ Passes s next → s.number < 8
    passes_kept e = fits_below _ _ (passes_fits e)

    pub closes_judged : {s : Section} {next : Reading} → seen file r ≡ Closes s next → judged r.order s.number ≡ order.Closes
    closes_judged e = sym (as_judged file r settled (known e).0) ∙ (known e).2

    -- and so is the next one
    pub passes_settled : {s : Section} {next : Reading} → seen file r ≡ Passes s next → Settled next
    passes_settled e between = absurd (never_both between (fits_open _ _ (passes_fits e)))

    pub closes_settled : {s : Section} {next : Reading} → seen file r ≡ Closes s next → Settled next
    closes_settled e between =
        ends_with_8 (reads_as file r.cursor.at.0 r.cursor.rest (known e).0) (closes_only _ _ (closes_judged e)).1

-- a section that first completes a submessage is seen again as the start of the next
again_order : (t : Bool) (number : ℕ) (s : Section) (cursor : Cursor) → eqb number 8 ≡ t → {u : Section} {next : Reading}
    → seen_by_order (pick t order.Closes (judged SubmessageStart number)) s cursor ≡ Passes u next
    → seen_by_order (judged SubmessageStart number) s cursor ≡ Passes u next
unfolding seen_by_order
again_order true number s cursor e {u} {next} f = let g : Closes s (reading cursor _) ≡ Passes u next = f in let z : ◌≡◌ {A = ℕ} 0 1 = cc in absurd (omega arith)
again_order false number s cursor e f = f

again : (found : Read) {s : Section} {next : Reading} → seen_by_read found AfterData ≡ Passes s next → seen_by_read found SubmessageStart ≡ Passes s next
unfolding seen_by_read over_in is_between judged_read judged
again (read.Section t cursor) e = again_order (eqb t.number 8) t.number t cursor refl e
again read.Over e = e
again (read.Refused fault offset) e = e

pub seen_again : (file : List ℕ) (cursor : Cursor) (before : Order) {s : Section} {next : Reading}
    → seen file (reading cursor before) ≡ Passes s next → completes before s.number ≡ true
    → seen file (reading cursor SubmessageStart) ≡ Passes s next
unfolding seen
seen_again file cursor before {s} {next} e c =
    again (read_at file cursor.at.0 cursor.rest)
    (subst (λ (o : Order). seen_by_read (read_at file cursor.at.0 cursor.rest) o ≡ Passes s next) (completes_only before s.number c).0 e)
