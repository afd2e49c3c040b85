-- The place of a refusal is a count of sections told.
use Prim.Native.Nat.{ℕ, ◌+◌, ◌≤◌}
use native.Mathlib.Omega.{arith}
use native.Mathlib.Nat.{add-zero}
use mathlib.Core.Path.{◌≡◌, refl, sym, ap, subst, ◌∙◌}
use mathlib.Core.List.{List, [], ◌∷◌, ◌++◌, append_assoc, append-nil}
use mathlib.Core.Logic.{inl, inr}
use lib.ListN.{length, get_or, length-append}
use lib.Seq.{get_or-append-add}
use Rattle.octets.specs.Words.{Not}
use Rattle.framing.specs.Framing.{read_at, refused_at}
use Rattle.framing.specs.declared.read.Section.{Section}
use Rattle.framing.specs.declared.read.Cursor.{Cursor}
use Rattle.framing.specs.Read.{Read}
use Rattle.framing.specs.Read as read
use Rattle.index.specs.declared.bounds.Room.{Room}
use Rattle.index.specs.Walk.{Reached, Judgement, Told, followed, walked}
use Rattle.walk_laws.specs.ExactlyWhen.{
  WellRead,
  rows_after_read,
  Stand,
  Comes,
  NotTooLong,
  Given,
  too_long,
  unread,
  input_over,
  misjudged,
}
use Rattle.walk_laws.specs.Rows.{FirstRow}
use Rattle.walk_laws.specs.Laws.{PlaceIsCount, offset_at, InputOverAtLast}
use Rattle.walk_laws.proofs.OneRead.{unreadable_refused, section_there, none_read}
use Rattle.walk_laws.proofs.OneSection.{stopped_there}
use Rattle.walk_laws.proofs.WalksTo.{WalksTo, from_start, step_on, comes_walks_to}
use Rattle.walk_laws.proofs.WholeWalk.{on, after, on_next, walked_on, walk_refused_exactly_when}
use Rattle.walk_laws.proofs.Passing.{passing}
use Rattle.walk_laws.proofs.Counts.{to_9}

abbrev pub unread_section : Section
unread_section = record { number = 0; offset = record { 0 = 0 }; length = 0 }

-- what is told before a stand
pub record Before (told : List Section) (r : Reached) (rest : List Section) : Type 0 where
  pub done : List Section
  pub whole : told ≡ done ++ rest
  pub count : length done ≡ r.sections
  pub last : 1 ≤ r.sections → (r.last.place.0 + 1 ≡ r.sections) × (get_or done r.last.place.0 unread_section ≡ r.last.section)

module _ (room : Room) (file : List ℕ) (short : NotTooLong file) where
  pub before : {at rest : ℕ} {r : Reached} → WalksTo room file at rest r
      → Before (walked room file).sections r (on room file at rest r).sections
  before from_start =
      record {
        done = [];
        whole = ap (λ (t : Told). t.sections) (walked_on room file short);
        count = refl;
        last = λ some. absurd (omega arith);
      }
  before (step_on {at} {rest} {r = r} {reached = reached} {s = s} {cursor = cursor} c e f) =
      let b = before c in
      let p = passing room r s f in
      let one = p.one in
      let count = b.count in
      let sum = length-append b.done (s ∷ []) in
      let more : (on room file at rest r).sections ≡ s ∷ (on room file cursor.at.0 cursor.rest reached).sections =
      ap (λ (t : Told). t.sections) (on_next room file at rest r)
      ∙ ap (λ (x : Read). (after room file r x).sections) e
      ∙ ap (λ (j : Judgement). (followed r s j (λ reached. on room file cursor.at.0 cursor.rest reached)).sections) f in
      let at_last : get_or (b.done ++ (s ∷ [])) r.sections unread_section ≡ s =
      subst (λ (k : ℕ). get_or (b.done ++ (s ∷ [])) k unread_section ≡ s) (add-zero (length b.done) ∙ count)
      (get_or-append-add b.done (s ∷ []) 0 unread_section) in
      record {
        done = b.done ++ (s ∷ []);
        whole = b.whole ∙ ap (λ (l : List Section). b.done ++ l) more ∙ sym (append_assoc b.done (s ∷ []) _);
        count = omega arith;
        last = λ some. rw p.last (sym one, at_last);
      }

  -- where nothing more is told that is all
  all_told : {at rest : ℕ} {r : Reached} (c : WalksTo room file at rest r) (x : Read) → read_at file at rest ≡ x
      → (after room file r x).sections ≡ [] → (walked room file).sections ≡ (before c).done
  all_told {at} {rest} {r} c x e none =
      let b = before c in
      b.whole
      ∙ ap (λ (l : List Section). b.done ++ l)
      (ap (λ (t : Told). t.sections) (on_next room file at rest r) ∙ ap (λ (x : Read). (after room file r x).sections) e ∙ none)
      ∙ append-nil b.done

  all_counted : {at rest : ℕ} {r : Reached} (c : WalksTo room file at rest r) (x : Read) → read_at file at rest ≡ x
      → (after room file r x).sections ≡ [] → r.sections ≡ length (walked room file).sections
  all_counted c x e none = sym (ap length (all_told c x e none) ∙ (before c).count)

  -- so it is where a section that was read is refused
  pub refused_told : {b : Stand} {s : Section} {rest' n d : ℕ} (c : Comes room file b) → WellRead file b.at b.rest s rest'
      → FirstRow (rows_after_read room b s.number) n d → (walked room file).sections ≡ (before (comes_walks_to c).reaches).done
  refused_told {b} {s} {rest'} {n} {d} c well first =
      let at = comes_walks_to c in
      let r = at.reached in
      let k =
      stopped_there room r s n d
      (subst (λ (b : Stand). FirstRow (rows_after_read room b s.number) n d) (sym at.stood) first) in
      let cursor : Cursor = record { at = record { 0 = s.offset.0 + s.length }; rest = rest' } in
      all_told at.reaches (read.Section s cursor) (section_there file b.at b.rest s rest' well)
      (ap (λ (j : Judgement). (followed r s j (λ reached. on room file cursor.at.0 cursor.rest reached)).sections) k.halts)

place_of : (room : Room) (file : List ℕ) (n p o d : ℕ) → Given room file n p o d → Not (n ≡ 1) → Not (n ≡ 10)
    → p ≡ length (walked room file).sections
place_of room file _ _ _ _ (too_long long) one ten = absurd (one refl)
place_of room file n _ o d (unread {b} short c u) one ten =
    let k = unreadable_refused file b.at b.rest n o d u in
    let at = comes_walks_to c in
    sym (ap (λ (b : Stand). b.sections) at.stood) ∙ all_counted room file short at.reaches (refused_at k.fault o) k.refuses refl
place_of room file _ _ _ _ (input_over short c none other last) one ten = absurd (ten refl)
place_of room file n _ _ d (misjudged short c well first) one ten =
    let at = comes_walks_to c in
    sym (ap (λ (b : Stand). b.sections) at.stood)
    ∙ sym (ap length (refused_told room file short c well first) ∙ (before room file short at.reaches).count)

pub place_is_count : PlaceIsCount
place_is_count room file n p o d zeroth one ten e =
    place_of room file n p o d ((walk_refused_exactly_when room file n p o d zeroth).0 e) one ten

last_of : (room : Room) (file : List ℕ) (n p o d : ℕ) → Given room file n p o d → n ≡ 10
    → (p + 1 ≡ length (walked room file).sections) × (o ≡ offset_at (walked room file).sections p)
last_of room file _ _ _ _ (too_long long) ten = absurd (omega arith)
last_of room file n _ o d (unread {b} short c u) ten = let k = to_9 file b.at b.rest n o d u in absurd (omega arith)
last_of room file _ _ _ _ (input_over {b} {last} short c none other count) ten =
    let e = none_read file b.at b.rest none in
    let at = comes_walks_to c in
    let r = at.reached in
    let told = before room file short at.reaches in
    let sections : r.sections ≡ b.sections = ap (λ (b : Stand). b.sections) at.stood in
    let l = told.last (omega arith) in
    let place = l.0 in
    let all = all_told room file short at.reaches read.Over e refl in
    let here : r.last.place.0 ≡ last = omega arith in (
      sym count ∙ sym sections ∙ all_counted room file short at.reaches read.Over e refl,
      sym
          (ap (λ (t : List Section). offset_at t last) all
          ∙ ap (λ (k : ℕ). offset_at told.done k) (sym here)
          ∙ ap (λ (s : Section). s.offset.0) l.1
          ∙ ap (λ (b : Stand). b.last) at.stood),
    )
last_of room file n _ _ d (misjudged short c e (inl (h, f, g))) ten = absurd (omega arith)
last_of room file n _ _ d (misjudged short c e (inr (_, inl (h, f, g)))) ten = absurd (omega arith)
last_of room file n _ _ d (misjudged short c e (inr (_, inr (_, inl (h, f, g))))) ten = absurd (omega arith)
last_of room file n _ _ d (misjudged short c e (inr (_, inr (_, inr (_, inl (h, f, g)))))) ten = absurd (omega arith)
last_of room file n _ _ d (misjudged short c e (inr (_, inr (_, inr (_, inr (_, inl (h, f, g))))))) ten = absurd (omega arith)
last_of room file n _ _ d (misjudged short c e (inr (_, inr (_, inr (_, inr (_, inr (_, h))))))) ten = absurd h

pub input_over_at_last : InputOverAtLast
input_over_at_last room file p o d e =
    last_of room file 10 p o d ((walk_refused_exactly_when room file 10 p o d (λ z. omega arith)).0 e) refl
