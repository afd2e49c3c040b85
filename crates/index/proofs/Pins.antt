-- The lines of a walk are pinned to the sections told, and there is one for each section 7: down the list of sections, by what is in
-- force at each stand.
use Rattle.std.specs.Prelude.{Some, None}
use Prim.Native.Nat.{ℕ, zero, suc, ◌+◌, ◌-◌, ◌≤◌}
use native.Mathlib.Omega.{arith}
use mathlib.Core.Path.{◌≡◌, refl, sym, ap, ap₂, subst, ◌∙◌}
use mathlib.Core.Bool.{Bool, true, false}
use mathlib.Core.List.{List, [], ◌∷◌, ◌++◌, map, append-nil, append_assoc, map-append}
use mathlib.Core.Logic.{◌⊎◌, inl, inr, ⊎_map}
use lib.Dec.{ltb, leb, eqb}
use lib.ListN.{length, drop, length-drop}
use borrow.Author.Tests.{eq-eqb, ne_eqb}
use Rattle.octets.specs.Words.{pick, Not}
use Rattle.framing.specs.Listing.{Ending, over, unreadable, listing}
use Rattle.framing.specs.declared.read.Section.{Section}
use Rattle.framing.proofs.Tests.{by_test}
use Rattle.order.specs.Order.{judged, completes, is_between}
use Rattle.order.specs.declared.Order.{Order}
use Rattle.order.specs.declared.Order.TheVariants.{AfterData, SubmessageStart}
use Rattle.order.specs.declared.Judged.{Judged}
use Rattle.order.specs.declared.Judged.TheVariants as says
use Rattle.order.proofs.Laws.{closes_only, no_grid_only, completes_only}
use Rattle.index.specs.Lines.{place, line_of}
use Rattle.index.specs.declared.line.Line.{Line}
use Rattle.index.specs.declared.bounds.Room.{Room}
use Rattle.index.specs.Walk.{
  Reached,
  at_start,
  Judgement,
  stops,
  passes,
  fitted,
  closing,
  by_order,
  gone_on,
  judgement,
  Told,
  concluded,
  followed,
  walked_from,
  walked,
}
use Rattle.index.specs.Numbers.{refusal_number, end_of}
use Rattle.index.specs.Pins.{
  Every,
  ToldAt,
  PinnedLine,
  LinesArePinned,
  places_from,
  AfterCompleting,
  BeforeCompleting,
  LineForEach7,
  each,
  but_the_last,
  ALineForEach7,
}
use Rattle.index.proofs.Rows.{fault_number_lem}
use Rattle.index.proofs.Counted.{Here, by_number, next_told, none_told, apart, count_step}
use Rattle.index.proofs.Fitting.{waiting, fitting, fitting_waits, idle, waits}
use Rattle.index.proofs.InForce.{InForce, outside, comes, in_hand_lem, line_of_lem, gone_on_lem}

-- the places of the sections 7 that wait for their line
abbrev held : ℕ → ℕ → List ℕ
held zero c = []
held (suc k) c = (c - 1) ∷ []

abbrev values_places : List Line → List ℕ
values_places lines = map (λ line. line.values.0) lines

held_new : (t : Bool) (c : ℕ) → pick t (c ∷ []) [] ≡ held (pick t 1 0) (c + 1)
held_new true c = ap (λ (k : ℕ). k ∷ []) (omega arith)
held_new false c = refl

module _ (told : List Section) (r : Reached) (s : Section) (force : InForce r.file told r.sections r.order r.force) where
  record Stopped (lines : List Line) (n : ℕ) : Type 0 where
    pins : Every (PinnedLine r.file told) lines
    told_7 : ((held (waiting r.order) r.sections ≡ values_places lines) × (waiting r.order ≡ 1 → AfterCompleting n))
        ⊎ ((lines ≡ []) × BeforeCompleting n)

  record Passed (lines : List Line) (reached : Reached) : Type 0 where
    one : reached.sections ≡ r.sections + 1
    same_file : reached.file ≡ r.file
    pins : Every (PinnedLine r.file told) lines
    force' : InForce r.file told reached.sections reached.order reached.force
    last_7 : waiting reached.order ≡ pick (eqb s.number 7) 1 0
    told_7 : held (waiting r.order) r.sections ++ pick (eqb s.number 7) (r.sections ∷ []) []
        ≡ values_places lines ++ held (waiting reached.order) (r.sections + 1)

  abbrev Pins : Judgement → Type 0
  Pins (stops lines why) = drop r.sections told ≡ [] → Stopped lines (refusal_number why)
  Pins (passes lines closed reached) = Here told r.sections s → Passed lines reached

  silent : (n : ℕ) → waiting r.order ≡ 0 → Stopped [] n
  silent n none =
      record { pins = tt; told_7 = inl (ap (λ (k : ℕ). held k r.sections) none, λ one. absurd (omega arith)) }

  -- no submessage is complete
  plain : completes r.order s.number ≡ false → (room : Room) (j : Judged) → judged r.order s.number ≡ j
      → Pins (by_order j room r s [])
  unfolding by_order fitted closing refusal_number line_of
  plain off room (says.Fits next) e =
      let fits = fitting r.order s.number off e in
      let (none, seven) = fitting_waits fits in
      by_test Pins (leb room.rows r.sections) (λ full end. silent 13 none) λ free here.
      record {
        one = refl;
        same_file = refl;
        pins = tt;
        force' = comes r.file told r.sections s force fits here;
        last_7 = seven;
        told_7 =
            ap (λ (k : ℕ). held k r.sections ++ pick (eqb s.number 7) (r.sections ∷ []) []) none
            ∙ held_new (eqb s.number 7) r.sections
            ∙ ap (λ (k : ℕ). held k (r.sections + 1)) (sym seven);
      }
  plain off room says.Closes e =
      let (order, eight) = closes_only r.order s.number e in
      let (next, i) = in_hand_lem r.file told force order in
      by_test Pins (leb room.rows r.sections)
      (λ full end. record { pins = tt; told_7 = inr (refl, inr (inl refl)) }) λ free.
      by_test Pins (leb room.lines r.lines)
      (λ full end. record { pins = tt; told_7 = inr (refl, inr (inr refl)) }) λ line here.
      record {
        one = refl;
        same_file = refl;
        pins = (
          line_of_lem r.file told force order (Some (place r.sections)) (λ there. refl)
              (λ absent. absurd (absent (rw eight at (by_number told here)))),
          tt,
        );
        force' =
            outside
            (let step = rw (ne_eqb s.number 0 (λ z. omega arith)) at (count_step told 0 s.number 0 r.sections (omega arith) (by_number told here)) in
            let old = i.so_far in omega arith);
        last_7 = rw (ne_eqb s.number 7 (λ z. omega arith));
        told_7 =
            rw (ne_eqb s.number 7 (λ z. omega arith))
            (ap (λ (o : Order). held (waiting o) r.sections ++ []) order ∙ ap (λ (k : ℕ). k ∷ []) (omega arith));
      }
  plain off room says.Misplaced e = λ end. silent 11 (idle r.order s.number off (λ z. differ (sym e ∙ z)))
    where
      differ : Not (says.Misplaced ≡ says.Closes)
      differ z = let zero_is : ◌≡◌ {A = ℕ} 0 1 = cc in omega arith
  plain off room says.NoGrid e = λ end. silent 12 (idle r.order s.number off (λ z. differ (sym e ∙ z)))
    where
      differ : Not (says.NoGrid ≡ says.Closes)
      differ z = let zero_is : ◌≡◌ {A = ℕ} 0 1 = cc in omega arith

  -- a submessage is complete, and its message goes on
  module _ (on : completes r.order s.number ≡ true) where
    order : r.order ≡ AfterData
    order = (completes_only r.order s.number on).0

    -- its line stands where the section is refused
    spoken : (n : ℕ) → AfterCompleting n → drop r.sections told ≡ [] → Stopped (line_of r.force None ∷ []) n
    unfolding line_of
    spoken n after end =
        let (next, i) = in_hand_lem r.file told force order in
        record {
          pins = (line_of_lem r.file told force order None (λ there. absurd (none_told told 8 r.sections end there)) (λ absent. refl), tt);
          told_7 = inl (ap (λ (o : Order). held (waiting o) r.sections) order ∙ ap (λ (k : ℕ). k ∷ []) (omega arith), λ one. after);
        }

    going : (room : Room) (j : Judged) → judged SubmessageStart s.number ≡ j
        → Pins (by_order j room (gone_on r) s (line_of r.force None ∷ []))
    unfolding by_order fitted refusal_number line_of completes
    going room (says.Fits next) e =
        let fits = fitting SubmessageStart s.number refl e in
        let (none, seven) = fitting_waits fits in
        let (before, i) = in_hand_lem r.file told force order in
        by_test Pins (leb room.rows r.sections) (λ full end. spoken 13 (inr refl) end) λ free here.
        record {
          one = refl;
          same_file = refl;
          pins = (
            line_of_lem r.file told force order None
                (λ there. absurd ((completes_only r.order s.number on).1 (sym (by_number told here).1 ∙ there.1)))
                (λ absent. refl),
            tt,
          );
          force' = comes r.file told r.sections s (gone_on_lem r.file told (rw order at force)) fits here;
          last_7 = seven;
          told_7 =
              ap (λ (o : Order). held (waiting o) r.sections ++ pick (eqb s.number 7) (r.sections ∷ []) []) order
              ∙ ap₂ (λ (k : ℕ) (l : List ℕ). k ∷ l) (omega arith)
              (held_new (eqb s.number 7) r.sections ∙ ap (λ (k : ℕ). held k (r.sections + 1)) (sym seven));
        }
    going room says.Closes e =
        let z = (closes_only SubmessageStart s.number e).0 in let zero_is : ◌≡◌ {A = ℕ} 0 1 = cc in absurd (omega arith)
    going room says.Misplaced e = spoken 11 (inl refl)
    going room says.NoGrid e =
        let z = (no_grid_only SubmessageStart s.number e).0 in let zero_is : ◌≡◌ {A = ℕ} 0 1 = cc in absurd (omega arith)

  -- any section that is well read
  judgement_pins : (room : Room) → Pins (judgement room r s)
  unfolding judgement refusal_number
  judgement_pins room =
      by_test Pins (completes r.order s.number)
      (λ on. by_test Pins (leb room.lines r.lines) (λ full end. record { pins = tt; told_7 = inr (refl, inr (inr refl)) }) λ free.
      going on room (judged SubmessageStart s.number) refl)
      λ off. plain off room (judged r.order s.number) refl

pub every_append : {A : Type 0} (So : A → Type 0) (a b : List A) → Every So a → Every So b → Every So (a ++ b)
every_append So [] b p q = q
every_append So (x ∷ a) b p q = (p.0, every_append So a b p.1 q)

-- after 7 the input's end and a section that can't be read leave a submessage without its line
unfinished : (r : Reached) (ending : Ending) → r.order ≡ AfterData → BeforeCompleting (end_of (concluded r ending)).outcome
unfolding concluded end_of refusal_number is_between
unfinished r over e = rw e (inl (omega arith, omega arith))
unfinished r (unreadable fault offset) e = let number = fault_number_lem fault in inl (omega arith, omega arith)

picked : (t : Bool) (c : ℕ) (later : List ℕ) → pick t (c ∷ later) later ≡ pick t (c ∷ []) [] ++ later
picked true c later = refl
picked false c later = refl

module _ (file : List ℕ) (told : List Section) where
  -- lines before
  lines_before : (lines : List Line) (more : List Line) (places : List ℕ) (n : ℕ) → LineForEach7 told places (values_places more) n
      → LineForEach7 told (values_places lines ++ places) (values_places (lines ++ more)) n
  lines_before lines more places n (each e after) =
      each (ap (λ (l : List ℕ). values_places lines ++ l) e ∙ sym (map-append (λ (line : Line). line.values.0) lines more)) after
  lines_before lines more places n (but_the_last v e last before) =
      but_the_last v
      (ap (λ (l : List ℕ). values_places lines ++ l) e ∙ sym (append_assoc (values_places lines) (values_places more) (v ∷ []))
      ∙ ap (λ (l : List ℕ). l ++ (v ∷ [])) (sym (map-append (λ (line : Line). line.values.0) lines more)))
      last before

  -- a stand: what is in force, and that a last section 7 waits
  record Stand (r : Reached) : Type 0 where
    same_file : r.file ≡ file
    force : InForce r.file told r.sections r.order r.force
    held_back : (v : ℕ) → v + 1 ≡ r.sections → waiting r.order ≡ 0 → Not (ToldAt told 7 v)
    few : r.sections ≤ length told

  next_stand : (r : Reached) (s : Section) → r.file ≡ file → (force : InForce r.file told r.sections r.order r.force)
      {lines : List Line} {reached : Reached} → Here told r.sections s → Passed told r s force lines reached → Stand reached
  next_stand r s same force {reached = reached} here p =
      record {
        same_file = p.same_file ∙ same;
        force = subst (λ (f : List ℕ). InForce f told reached.sections reached.order reached.force) (sym p.same_file) p.force';
        held_back = λ v e none there. apart told there (by_number told here)
            (λ same. let one = rw (eq-eqb s.number 7 (sym same)) at p.last_7 in omega arith) (let one = p.one in omega arith);
        few = let one = p.one in let inside = here.0 in omega arith;
      }

  -- where nothing more is told
  last_stand : (r : Reached) (lines : List Line) (n : ℕ) → Stand r → drop r.sections told ≡ []
      → ((held (waiting r.order) r.sections ≡ values_places lines) × (waiting r.order ≡ 1 → AfterCompleting n))
      ⊎ ((lines ≡ []) × (r.order ≡ AfterData → BeforeCompleting n))
      → LineForEach7 told (held (waiting r.order) r.sections ++ []) (values_places lines) n
  last_stand r lines n stand end how = go (waits r.order) how
    where
      all : r.sections ≡ length told
      all = let few = stand.few in omega (arith, length-drop r.sections told, ap length end)

      none_held : waiting r.order ≡ 0 → held (waiting r.order) r.sections ≡ []
      none_held none = ap (λ (k : ℕ). held k r.sections) none

      go : (waiting r.order ≡ 0) ⊎ (r.order ≡ AfterData)
          → ((held (waiting r.order) r.sections ≡ values_places lines) × (waiting r.order ≡ 1 → AfterCompleting n))
          ⊎ ((lines ≡ []) × (r.order ≡ AfterData → BeforeCompleting n))
          → LineForEach7 told (held (waiting r.order) r.sections ++ []) (values_places lines) n
      go (inl none) (inl (e, after)) =
          each (append-nil _ ∙ e) (λ v last there. absurd (stand.held_back v (last ∙ sym all) none there))
      go (inl none) (inr (empty, before)) =
          each (append-nil _ ∙ none_held none ∙ ap values_places (sym empty))
          (λ v last there. absurd (stand.held_back v (last ∙ sym all) none there))
      go (inr seven) (inl (e, after)) = each (append-nil _ ∙ e) (λ v last there. after (ap waiting seven))
      go (inr seven) (inr (empty, before)) =
          let one = (in_hand_lem r.file told stand.force seven).0 in
          but_the_last (r.sections - 1)
          (append-nil _ ∙ ap (λ (o : Order). held (waiting o) r.sections) seven
          ∙ ap (λ (l : List Line). values_places l ++ ((r.sections - 1) ∷ [])) (sym empty))
          (let all' = all in omega arith) (before seven)

-- from every stand on
module _ (file : List ℕ) (told : List Section) (room : Room) (ending : Ending) where
  record Pinned (r : Reached) (t : Told) : Type 0 where
    lines_so : Every (PinnedLine file told) t.lines
    each_so : LineForEach7 told (held (waiting r.order) r.sections ++ places_from 7 r.sections t.sections)
        (values_places t.lines) (end_of t.outcome).outcome

  pinned_from : (sections : List Section) (r : Reached) → Stand file told r → drop r.sections told ≡ (walked_from room r sections ending).sections
      → Pinned r (walked_from room r sections ending)
  unfolding walked_from end_of
  pinned_from [] r stand rest =
      record { lines_so = tt; each_so = last_stand file told r [] _ stand rest (inr (refl, unfinished r ending)) }
  pinned_from (s ∷ sections) r stand rest =
      go (judgement room r s) (judgement_pins told r s stand.force room) rest (pinned_from sections)
    where
      joined : (lines : List Line) (reached : Reached) (after : List Section) → Passed told r s stand.force lines reached
          → held (waiting r.order) r.sections ++ places_from 7 r.sections (s ∷ after)
          ≡ values_places lines ++ (held (waiting reached.order) reached.sections ++ places_from 7 reached.sections after)
      joined lines reached after p =
          let later = places_from 7 (r.sections + 1) after in
          let here = held (waiting r.order) r.sections in
          ap (λ (l : List ℕ). here ++ l) (picked (eqb s.number 7) r.sections later)
          ∙ sym (append_assoc here (pick (eqb s.number 7) (r.sections ∷ []) []) later)
          ∙ ap (λ (l : List ℕ). l ++ later) p.told_7
          ∙ append_assoc (values_places lines) (held (waiting reached.order) (r.sections + 1)) later
          ∙ ap (λ (k : ℕ). values_places lines ++ (held (waiting reached.order) k ++ places_from 7 k after)) (sym p.one)

      go : (j : Judgement) → Pins told r s stand.force j
          → drop r.sections told ≡ (followed r s j (λ reached. walked_from room reached sections ending)).sections
          → ((reached : Reached) → Stand file told reached → drop reached.sections told ≡ (walked_from room reached sections ending).sections
          → Pinned reached (walked_from room reached sections ending))
          → Pinned r (followed r s j (λ reached. walked_from room reached sections ending))
      go (stops lines why) pins rest later =
          record {
            lines_so = subst (λ (f : List ℕ). Every (PinnedLine f told) lines) stand.same_file (pins rest).pins;
            each_so = last_stand file told r lines _ stand rest (⊎_map (λ x. x) (λ x. (x.0, λ seven. x.1)) (pins rest).told_7);
          }
      go (passes lines closed reached) pins rest later =
          let t = walked_from room reached sections ending in
          let (here, more) = next_told told r.sections s t.sections rest in
          let p = pins here in
          let tail = later reached (next_stand file told r s stand.same_file stand.force here p) (rw (← p.one) at more) in
          record {
            lines_so =
                every_append (PinnedLine file told) lines t.lines
                (subst (λ (f : List ℕ). Every (PinnedLine f told) lines) stand.same_file p.pins) tail.lines_so;
            each_so =
                subst (λ (l : List ℕ). LineForEach7 told l (values_places (lines ++ t.lines)) (end_of t.outcome).outcome)
                (sym (joined lines reached t.sections p))
                (lines_before file told lines t.lines (held (waiting reached.order) reached.sections
                ++ places_from 7 reached.sections t.sections) _ tail.each_so);
          }

-- of a whole walk
start : (file : List ℕ) (told : List Section) → Stand file told (at_start file)
start file told = record { same_file = refl; force = outside refl; held_back = λ v e none there. omega arith; few = omega arith }

whole : (room : Room) (file : List ℕ)
    → let t = walked_from room (at_start file) (listing file).sections (listing file).ending in
    Pinned file t.sections room (listing file).ending (at_start file) t
whole room file = let told = (walked_from room (at_start file) (listing file).sections (listing file).ending).sections in
    pinned_from file told room (listing file).ending (listing file).sections (at_start file) (start file told) refl

pub lines_are_pinned : LinesArePinned
unfolding walked
lines_are_pinned room file =
    by_test (λ (t : Told). Every (PinnedLine file t.sections) t.lines) (ltb 1099511627776 (length file)) (λ long. tt) λ short.
    (whole room file).lines_so

pub a_line_for_each_7 : ALineForEach7
unfolding walked
a_line_for_each_7 room file =
    by_test
    (λ (t : Told). LineForEach7 t.sections (places_from 7 0 t.sections) (values_places t.lines) (end_of t.outcome).outcome)
    (ltb 1099511627776 (length file)) (λ long. each refl (λ v last there. absurd (omega arith))) λ short.
    (whole room file).each_so
