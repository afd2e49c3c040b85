-- From a listing to a walk: a walk lists the listing's first sections, and all of them where it ends clean; two files with one listing, whose
-- sections 0 say the same, have one walk.
use Rattle.std.specs.Prelude.{None, Ok, Err}
use Prim.Native.Nat.{ℕ, ◌+◌}
use mathlib.Core.Path.{◌≡◌, refl, sym, ap, subst, ◌∙◌}
use mathlib.Core.Bool.{false}
use mathlib.Core.List.{List, [], ◌∷◌, ◌++◌}
use lib.Dec.{ltb, leb}
use lib.ListN.{length}
use Rattle.octets.specs.Words.{pick}
use Rattle.framing.specs.Listing.{Ending, over, unreadable, listing}
use Rattle.framing.specs.declared.read.Section.{Section}
use Rattle.framing.proofs.Tests.{by_test, or_neither}
use Rattle.order.specs.Order.{judged, completes}
use Rattle.order.specs.declared.Order.{Order}
use Rattle.order.specs.declared.Order.TheVariants.{SubmessageStart}
use Rattle.order.specs.declared.Judged.{Judged}
use Rattle.order.specs.declared.Judged.TheVariants as says
use Rattle.index.specs.Lines.{place, with_span, in_force, line_of}
use Rattle.index.specs.declared.line.Span.{Span}
use Rattle.index.specs.declared.line.Line.{Line}
use Rattle.index.specs.declared.refusal.Refusal.TheVariants.{FileTooLong}
use Rattle.index.specs.declared.bounds.Room.{Room}
use Rattle.index.specs.Walk.{
  Reached,
  at_start,
  Judgement,
  stops,
  passes,
  here,
  span_behind,
  fitted,
  closing,
  by_order,
  gone_on,
  judgement,
  Told,
  ends,
  concluded,
  followed,
  walked_from,
  walked,
}
use Rattle.standing.proofs.Lent.{by_test_2}
use Rattle.publish.specs.Values.{Terms, carries, is_value}
use Rattle.blindness.proofs.Spared.{Each}
use Rattle.blindness.proofs.Listed.{or_neither as or-none}
use Rattle.index.specs.Outcome.{Outcome, refused_there}

-- a clean end is no refusal
abbrev pub IsClean : Outcome → Type 0
IsClean (Ok tt) = Unit
IsClean (Err stop) = ⊥

pub is_clean : {o : Outcome} → o ≡ Ok tt → IsClean o
is_clean e = subst IsClean (sym e) tt

-- what holds of all sections of a list holds of all that a walk down it lists
module _ (P : Section → Type 0) (room : Room) where
  fewer_from : (r : Reached) (sections : List Section) (ending : Ending) → Each P sections
      → Each P (walked_from room r sections ending).sections
  unfolding walked_from
  fewer_from r [] ending each = tt
  fewer_from r (s ∷ more) ending each = go (judgement room r s) (λ reached. fewer_from reached more ending each.1)
    where
      go : (j : Judgement) → ((reached : Reached) → Each P (walked_from room reached more ending).sections)
          → Each P (followed r s j (λ reached. walked_from room reached more ending)).sections
      go (stops lines why) ih = tt
      go (passes lines closed reached) ih = (each.0, ih reached)

  pub fewer : (f : List ℕ) → Each P (listing f).sections → Each P (walked room f).sections
  unfolding walked
  fewer f each =
      by_test (λ (told : Told). Each P told.sections) (ltb 1099511627776 (length f)) (λ _. tt)
      (λ _. fewer_from (at_start f) (listing f).sections (listing f).ending each)

-- a values octet of what a walk lists is one of what is listed
module _ (terms : Terms) (k : ℕ) where
  to_each : (sections : List Section) → is_value terms sections k ≡ false → Each (λ s. carries terms s k ≡ false) sections
  unfolding is_value
  to_each [] h = tt
  to_each (s ∷ more) h = let p = or_neither (carries terms s k) (is_value terms more k) h in (p.0, to_each more p.1)

  of_each : (sections : List Section) → Each (λ s. carries terms s k ≡ false) sections → is_value terms sections k ≡ false
  unfolding is_value
  of_each [] each = refl
  of_each (s ∷ more) each = or-none each.0 (of_each more each.1)

  pub fewer_values : (room : Room) (f : List ℕ) → is_value terms (listing f).sections k ≡ false
      → is_value terms (walked room f).sections k ≡ false
  fewer_values room f h =
      of_each (walked room f).sections (fewer (λ s. carries terms s k ≡ false) room f (to_each (listing f).sections h))

-- a clean walk lists all, and the input is over behind it
module _ (room : Room) where
  all_from : (r : Reached) (sections : List Section) (ending : Ending)
      → (walked_from room r sections ending).outcome ≡ Ok tt
      → ((walked_from room r sections ending).sections ≡ sections) × (ending ≡ over)
  unfolding walked_from concluded
  all_from r [] over h = (refl, refl)
  all_from r [] (unreadable fault offset) h = absurd (is_clean h)
  all_from r (s ∷ more) ending h = go (judgement room r s) h (λ reached. all_from reached more ending)
    where
      go : (j : Judgement)
          → (followed r s j (λ reached. walked_from room reached more ending)).outcome ≡ Ok tt
          → ((reached : Reached) → (walked_from room reached more ending).outcome ≡ Ok tt
          → ((walked_from room reached more ending).sections ≡ more) × (ending ≡ over))
          → ((followed r s j (λ reached. walked_from room reached more ending)).sections ≡ s ∷ more) × (ending ≡ over)
      go (stops lines why) h' ih = absurd (is_clean h')
      go (passes lines closed reached) h' ih = let p = ih reached h' in (ap (λ (m : List Section). s ∷ m) p.0, p.1)

  pub clean_walk : (f : List ℕ) → (walked room f).outcome ≡ Ok tt
      → ((walked room f).sections ≡ (listing f).sections) × ((listing f).ending ≡ over)
  unfolding walked
  clean_walk f =
      by_test
      (λ (told : Told). told.outcome ≡ Ok tt
      → (told.sections ≡ (listing f).sections) × ((listing f).ending ≡ over))
      (ltb 1099511627776 (length f)) (λ _ h. absurd (is_clean h))
      (λ _. all_from (at_start f) (listing f).sections (listing f).ending)

-- a section says the same of its message in two files
abbrev pub SameSpan : List ℕ → List ℕ → Section → Type 0
SameSpan f g s = (before : Span) → span_behind f before s ≡ span_behind g before s

-- with another file walked
abbrev with_file : Reached → List ℕ → Reached
with_file r file =
    record { file = file; sections = r.sections; lines = r.lines; last = r.last; order = r.order; force = r.force }

abbrev moved : List ℕ → Judgement → Judgement
moved file (stops lines why) = stops lines why
moved file (passes lines closed reached) = passes lines closed (with_file reached file)

-- a walk is told by the listing, and by what the sections 0 of it say
module _ (room : Room) (f : List ℕ) where
  module _ (s : Section) (g : List ℕ) (span : SameSpan f g s) where
    abbrev Same : Judgement → Judgement → Type 0
    Same j k = j ≡ moved g k

    fitted_same : (r : Reached) (lines : List Line) (order : Order)
        → Same (fitted room (with_file r g) s lines order) (fitted room (with_file r f) s lines order)
    unfolding fitted
    fitted_same r lines order =
        by_test_2 Same (leb room.rows r.sections) (λ full. refl) λ free.
        ap
        (λ (x : Span).
        passes lines 0
        (record {
          file = g;
          sections = r.sections + 1;
          lines = r.lines;
          last = here r s;
          order = order;
          force = with_span (in_force r.force s.number (place r.sections)) x;
        }))
        (sym (span r.force.span))

    closing_same : (r : Reached) → Same (closing room (with_file r g) s) (closing room (with_file r f) s)
    unfolding closing
    closing_same r =
        by_test_2 Same (leb room.rows r.sections) (λ full. refl) λ free.
        by_test_2 Same (leb room.lines r.lines) (λ full. refl) (λ line. refl)

    by_order_same : (j : Judged) (r : Reached) (lines : List Line)
        → Same (by_order j room (with_file r g) s lines) (by_order j room (with_file r f) s lines)
    unfolding by_order
    by_order_same (says.Fits order) r lines = fitted_same r lines order
    by_order_same says.Closes r lines = closing_same r
    by_order_same says.Misplaced r lines = refl
    by_order_same says.NoGrid r lines = refl

    judgement_same : (r : Reached) → Same (judgement room (with_file r g) s) (judgement room (with_file r f) s)
    unfolding judgement
    judgement_same r =
        by_test_2 Same (completes r.order s.number)
        (λ on.
        by_test_2 Same (leb room.lines r.lines) (λ full. refl) λ free.
        by_order_same (judged SubmessageStart s.number) (gone_on r) (line_of r.force None ∷ []))
        λ off. by_order_same (judged r.order s.number) r []

  same_from : (g : List ℕ) (sections : List Section) (ending : Ending) → Each (SameSpan f g) sections → (r : Reached)
      → walked_from room (with_file r f) sections ending ≡ walked_from room (with_file r g) sections ending
  unfolding walked_from concluded
  same_from g [] over each r = refl
  same_from g [] (unreadable fault offset) each r = refl
  same_from g (s ∷ more) ending each r =
      ap (λ j. followed (with_file r f) s j (λ reached. walked_from room reached more ending)) (judgement_same s f (λ before. refl) r)
      ∙ go (judgement room (with_file r f) s) (same_from g more ending each.1)
      ∙ ap (λ j. followed (with_file r g) s j (λ reached. walked_from room reached more ending)) (sym (judgement_same s g each.0 r))
    where
      go : (j : Judgement) → ((q : Reached) → walked_from room (with_file q f) more ending ≡ walked_from room (with_file q g) more ending)
          → followed (with_file r f) s (moved f j) (λ reached. walked_from room reached more ending)
          ≡ followed (with_file r g) s (moved g j) (λ reached. walked_from room reached more ending)
      go (stops lines why) ih = refl
      go (passes lines closed q) ih =
          ap
          (λ (t : Told).
          record { sections = s ∷ t.sections; lines = lines ++ t.lines; messages = closed + t.messages; outcome = t.outcome })
          (ih q)

  pub walked_same : (g : List ℕ) → length f ≡ length g → listing f ≡ listing g → Each (SameSpan f g) (listing f).sections
      → walked room f ≡ walked room g
  unfolding walked
  walked_same g same e each =
      rw (← same, ← e)
      (ap
      (λ (t : Told). pick (ltb 1099511627776 (length f))
      (ends (Err (refused_there FileTooLong (place 0) (record { 0 = 0 })))) t)
      (same_from g (listing f).sections (listing f).ending each (at_start f)))
