-- The crate's words back: what a walk tells, in the crate's words, is that again.
use Rattle.std.specs.Prelude.{Option, Some, None, Ok, Err}
use Prim.Native.Nat.{ℕ, zero, suc, ◌+◌, ◌≤◌}
use native.Mathlib.Omega.{arith}
use mathlib.Core.Path.{◌≡◌, refl, sym, ap, ◌∙◌}
use mathlib.Core.List.{List, [], ◌∷◌, map}
use lib.ListN.{length, get_or}
use borrow.Author.Tests.{ne_eqb}
use Rattle.octets.specs.Words.{Not}
use Rattle.octets.specs.BigEndian.{be_at}
use Rattle.framing.specs.Listing.{Ending, over, unreadable}
use Rattle.framing.specs.declared.read.Offset.{Offset}
use Rattle.framing.specs.declared.read.Section.{Section}
use Rattle.framing.specs.declared.read.Fault.{Fault}
use Rattle.framing.specs.declared.read.Fault.TheVariants as fault
use Rattle.framing.proofs.Tests.{by_test}
use Rattle.order.specs.Order.{judged, completes, is_between}
use Rattle.order.specs.declared.Judged.{Judged}
use Rattle.order.specs.declared.Judged.TheVariants as judged
use Rattle.order.specs.declared.Place.{Place}
use Rattle.index.specs.Lines.{span}
use Rattle.index.specs.Bounds.{unlimited}
use Rattle.index.specs.declared.line.Line.{Line}
use Rattle.index.specs.declared.refusal.Refusal.{Refusal}
use Rattle.index.specs.declared.refusal.Refusal.TheVariants as refusal
use Rattle.index.specs.Numbers.{end_of, refusal_number, refusal_detail, fault_number, fault_detail}
use Rattle.index.specs.Walk.{Reached, Judgement, stops, passes, gone_on, concluded, followed, walked}
use Rattle.index.specs.Pins.{Every, PinnedLine, count_of}
use Rattle.index.proofs.Pins.{lines_are_pinned}
use Rattle.walk_laws.specs.Laws.{closings, offset_at}
use Rattle.walk_laws.proofs.Messages.{messages_are_ends}
use Rattle.walk_laws.proofs.Places.{place_is_count, input_over_at_last}
use Rattle.as_the_crate.specs.Std.{SectionInfo, info}
use Rattle.as_the_crate.specs.Parser.{positions, Submessage, overflow}
use Rattle.as_the_crate.specs.Equal.{count_told}
use Rattle.as_the_crate.specs.Open.{ninth_of}
use Rattle.as_the_crate.specs.Told.{section_in, local_in, end_in, line_in, closed_in, outcome_in, told_in}
use Rattle.as_the_crate.proofs.Words.{infos_of, kept_local, kept_end, submessage_of, submessages_of, word_of, in_words}
use Rattle.as_the_crate.proofs.Tables.{freely_by, freely, freely_from}
use Rattle.as_the_crate.proofs.Whole.{unlimited_held}
use Rattle.index.specs.Outcome.{Outcome, refused_there}

pub sections_back : (ss : List Section) → map (λ (s : SectionInfo). section_in s) (infos_of ss) ≡ ss
sections_back [] = refl
sections_back (s ∷ ss) = ap (λ (more : List Section). s ∷ more) (sections_back ss)

local_back : (l : Option Place) → local_in (kept_local (λ k. k) l) ≡ l
local_back (Some p) = refl
local_back None = refl

closed_back : (ss : List Section) → closed_in (infos_of ss) ≡ count_of 8 ss
closed_back [] = refl
closed_back (s ∷ ss) = rw (closed_back ss)

offset_back : (ss : List Section) (k : ℕ) → (get_or (infos_of ss) k (info 0 0 0)).offset ≡ offset_at ss k
offset_back [] k = refl
offset_back (s ∷ ss) zero = refl
offset_back (s ∷ ss) (suc k) = offset_back ss k

module _ {file : List ℕ} {ss : List Section} where
  -- a pinned line's message goes on, or is closed at a place that is not 0
  pub by_end : {l : Line} → PinnedLine file ss l → (So : Option Place → Type 0) → So None → ((p : Place) → Not (p.0 ≡ 0) → So (Some p))
      → So l.end
  by_end {l} pins So ajar closed = go l.end refl
    where
      not_0 : (p : Place) → l.end ≡ Some p → Not (p.0 ≡ 0)
      not_0 p e zeroth =
          let goes_on : l.end ≡ None = pins.goes_on λ there. (let same = ap ninth_of (sym e ∙ pins.closed there) in omega arith) in
          let never : ◌≡◌ {A = ℕ} 1 0 = ap closings (sym e ∙ goes_on) in
          omega arith

      go : (e : Option Place) → l.end ≡ e → So e
      go None e = ajar
      go (Some p) e = closed p (not_0 p e)

  -- so its end comes back
  end_back : {l : Line} → PinnedLine file ss l → (line_in file (infos_of ss) (submessage_of positions (λ k. k) l)).end ≡ l.end
  end_back pins =
      by_end pins (λ (e : Option Place). end_in (kept_end positions (λ k. k) e) ≡ e) refl (λ p other. rw (ne_eqb p.0 0 other))

  -- and so does where its message stands
  span_back : {l : Line} → PinnedLine file ss l → (line_in file (infos_of ss) (submessage_of positions (λ k. k) l)).span ≡ l.span
  span_back {l} pins =
      ap (λ (at : ℕ). span (record { 0 = at }) (be_at file (at + 8) 8)) (offset_back ss _ ∙ sym (ap (λ (o : Offset). o.0) pins.offset))
      ∙ ap (λ (total : ℕ). span l.span.offset total) (sym pins.total)

-- pinned lines come back
pub lines_back : (file : List ℕ) (ss : List Section) (ls : List Line) → Every (PinnedLine file ss) ls
    → map (λ (s : Submessage ℕ). line_in file (infos_of ss) s) (submessages_of positions (λ k. k) ls) ≡ ls
lines_back file ss [] pins = refl
lines_back file ss (l ∷ ls) pins =
    rw (local_back l.local, end_back pins.0, span_back pins.0, lines_back file ss ls pins.1)

pub as_many : (ss : List Section) → length (infos_of ss) ≡ length ss
as_many [] = refl
as_many (s ∷ ss) = ap suc (as_many ss)

-- neither 1, nor 13, nor 14
abbrev Usual : Refusal → Type 0
Usual refusal.FileTooLong = ⊥
Usual (refusal.Unreadable fault) = Unit
Usual refusal.InputOver = Unit
Usual (refusal.Misplaced number) = Unit
Usual (refusal.NoGrid number) = Unit
Usual refusal.SectionTableFull = ⊥
Usual refusal.SubmessageTableFull = ⊥

abbrev Ordinary : Outcome → Type 0
Ordinary (Ok tt) = Unit
Ordinary (Err stop) = Usual stop.why

abbrev Orderly : Judgement → Type 0
Orderly (stops lines why) = Usual why
Orderly (passes lines closed reached) = Unit

orderly : (r : Reached) (s : Section) → Orderly (freely r s)
unfolding freely
orderly r s =
    by_test Orderly (completes r.order s.number) (λ e. go (judged _ s.number) (gone_on r) _) (λ e. go (judged r.order s.number) r [])
  where
    go : (j : Judged) (q : Reached) (lines : List Line) → Orderly (freely_by j q s lines)
    go (judged.Fits order) q lines = tt
    go judged.Closes q lines = tt
    go judged.Misplaced q lines = tt
    go judged.NoGrid q lines = tt

ordinary : (ss : List Section) (e : Ending) (r : Reached) → Ordinary (freely_from r ss e).outcome
unfolding freely_from concluded
ordinary [] over r = by_test Ordinary (is_between r.order) (λ e. tt) (λ e. tt)
ordinary [] (unreadable fault offset) r = tt
ordinary (s ∷ ss) e r = go (freely r s) (orderly r s) (λ q. ordinary ss e q)
  where
    go : (j : Judgement) → Orderly j → ((q : Reached) → Ordinary (freely_from q ss e).outcome)
        → Ordinary (followed r s j (λ q. freely_from q ss e)).outcome
    go (stops lines why) usual ih = usual
    go (passes lines closed reached) usual ih = ih reached

module _ (file : List ℕ) where
  abbrev ss : List Section
  ss = (walked unlimited file).sections

  -- a refusal of 2 to 9 has the count of sections as its place
  counted : (f : Fault) (p : Place) (o : Offset) → (walked unlimited file).outcome ≡ Err (refused_there (refusal.Unreadable f) p o)
      → Not (fault_number f ≡ 0) → Not (fault_number f ≡ 1) → Not (fault_number f ≡ 10) → length (infos_of ss) ≡ p.0
  unfolding end_of refusal_number refusal_detail
  counted f p o e n0 n1 n10 =
      as_many ss ∙ sym (place_is_count unlimited file (fault_number f) p.0 o.0 (fault_detail f) n0 n1 n10 (ap end_of e))

  refused_back : (why : Refusal) (p : Place) (o : Offset) → (walked unlimited file).outcome ≡ Err (refused_there why p o)
      → Ordinary (Err (refused_there why p o)) → Not (word_of (Err (refused_there why p o)) ≡ overflow)
      → outcome_in (end_of (Err (refused_there why p o))).detail (infos_of ss) (word_of (Err (refused_there why p o)))
      ≡ Err (refused_there why p o)
  unfolding end_of refusal_number refusal_detail fault_number fault_detail
  refused_back refusal.FileTooLong p o e h no_overflow = absurd h
  refused_back (refusal.Unreadable (fault.Cut missing)) p o e h no_overflow =
      rw (counted (fault.Cut missing) p o e (λ z. omega arith) (λ z. omega arith) (λ z. omega arith)) refl
  refused_back (refusal.Unreadable (fault.OtherEdition edition)) p o e h no_overflow =
      rw (counted (fault.OtherEdition edition) p o e (λ z. omega arith) (λ z. omega arith) (λ z. omega arith)) refl
  refused_back (refusal.Unreadable fault.TotalUnder16) p o e h no_overflow = absurd (no_overflow refl)
  refused_back (refusal.Unreadable fault.NotEndMark) p o e h no_overflow =
      rw (counted fault.NotEndMark p o e (λ z. omega arith) (λ z. omega arith) (λ z. omega arith)) refl
  refused_back (refusal.Unreadable (fault.LengthUnder5 len)) p o e h no_overflow = absurd (no_overflow refl)
  refused_back (refusal.Unreadable (fault.UnknownNumber number)) p o e h no_overflow =
      rw (counted (fault.UnknownNumber number) p o e (λ z. omega arith) (λ z. omega arith) (λ z. omega arith)) refl
  refused_back (refusal.Unreadable (fault.PayloadUnderLeast size)) p o e h no_overflow =
      rw (counted (fault.PayloadUnderLeast size) p o e (λ z. omega arith) (λ z. omega arith) (λ z. omega arith)) refl
  refused_back (refusal.Unreadable (fault.LongerThanRest len)) p o e h no_overflow = absurd (no_overflow refl)
  refused_back refusal.InputOver p o e h no_overflow =
      rw (offset_back ss p.0, ← (input_over_at_last unlimited file p.0 o.0 0 (ap end_of e)).1) refl
  refused_back (refusal.Misplaced number) p o e h no_overflow = refl
  refused_back (refusal.NoGrid number) p o e h no_overflow = refl
  refused_back refusal.SectionTableFull p o e h no_overflow = absurd h
  refused_back refusal.SubmessageTableFull p o e h no_overflow = absurd h

  outcome_back : (o : Outcome) → (walked unlimited file).outcome ≡ o → Ordinary o → Not (word_of o ≡ overflow)
      → outcome_in (end_of o).detail (infos_of ss) (word_of o) ≡ o
  unfolding end_of
  outcome_back (Ok tt) e h no_overflow = refl
  outcome_back (Err stop) e h no_overflow = refused_back stop.why stop.place stop.offset e h no_overflow

  -- all that the walk tells
  pub told_back : length file ≤ 1099511627776 → Not (word_of (walked unlimited file).outcome ≡ overflow)
      → told_in (count_told file) file (in_words positions (λ k. k) (walked unlimited file)) ≡ walked unlimited file
  told_back most no_overflow =
      rw (
        sections_back ss,
        lines_back file ss (walked unlimited file).lines (lines_are_pinned unlimited file),
        closed_back ss,
        ← (messages_are_ends unlimited file),
        outcome_back (walked unlimited file).outcome refl (rw (unlimited_held file most) (ordinary _ _ _)) no_overflow,
      )
