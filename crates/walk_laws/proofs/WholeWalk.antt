-- A walk is refused or ends clean exactly when it comes to a read at which the rows, or the input's end, say so.
use Rattle.std.specs.Prelude.{Ok, Err}
use Prim.Native.Nat.{ℕ, zero, suc, ◌+◌, ◌-◌, ◌≤◌, ◌<◌}
use native.Mathlib.Omega.{arith}
use mathlib.Core.Path.{◌≡◌, refl, sym, ap, subst, ◌∙◌}
use mathlib.Core.Bool.{Bool, true, false}
use mathlib.Core.List.{List}
use lib.Dec.{ltb}
use lib.ListN.{length}
use borrow.Author.Tests.{ltb-true, ltb-false, lt-ltb, le-ltb}
use Rattle.octets.specs.Words.{pick, Not}
use Rattle.framing.specs.Framing.{read_at, refused_at}
use Rattle.framing.specs.Listing as list
use Rattle.framing.specs.declared.read.Section.{Section}
use Rattle.framing.specs.declared.read.Cursor.{Cursor}
use Rattle.framing.specs.Read.{Read}
use Rattle.framing.specs.Read as read
use Rattle.framing.proofs.OneRead.{reads_as, goes}
use Rattle.framing.proofs.Listing.{listing_on, listing_next, listing_is}
use Rattle.order.specs.Order.{is_between}
use Rattle.order.specs.declared.Order.TheVariants.{BetweenMessages}
use Rattle.order.proofs.Laws.{Said, said, not_between}
use Rattle.index.specs.Lines.{place}
use Rattle.index.specs.Numbers.{refusal_number, refusal_detail, end_of}
use Rattle.index.specs.declared.numbers.End.{End}
use Rattle.index.specs.declared.refusal.Refusal.{Refusal}
use Rattle.index.specs.declared.refusal.Refusal.TheVariants as refusal
use Rattle.index.specs.declared.bounds.Room.{Room}
use Rattle.index.specs.Walk.{Reached, at_start, Judgement, judgement, Told, ends, concluded, followed, walked_from, walked}
use Rattle.index.proofs.Rows.{fault_number_lem}
use Rattle.walk_laws.specs.Rows.{FirstRow}
use Rattle.walk_laws.specs.ExactlyWhen.{
  rows_after_read,
  Stand,
  NoneInHand,
  Given,
  too_long,
  unread,
  input_over,
  misjudged,
  EndsClean,
  between,
  WalkRefusedExactlyWhen,
  WalkCleanExactlyWhen,
}
use Rattle.walk_laws.proofs.OneRead.{Tells, refuses, reads, over, tells, unreadable_refused, section_there, none_read}
use Rattle.walk_laws.proofs.OneSection.{Judges, halts, goes as passes_on, judges, stopped_there}
use Rattle.walk_laws.proofs.WalksTo.{WalksTo, from_start, step_on, walks_to_comes, comes_walks_to, last_there, read_so}
use Rattle.index.specs.Outcome.{Outcome, refused_there}

-- the walk from a place and a rest on
unfoldable pub on : Room → List ℕ → ℕ → ℕ → Reached → Told
on room file at rest r = walked_from room r (listing_on file at rest).sections (listing_on file at rest).ending

-- and from a read on
abbrev pub after : Room → List ℕ → Reached → Read → Told
after room file r (read.Section s next) = followed r s (judgement room r s) (λ reached. on room file next.at.0 next.rest reached)
after room file r read.Over = ends (concluded r list.over)
after room file r (read.Refused fault offset) = ends (concluded r (list.unreadable fault offset))

pub on_next : (room : Room) (file : List ℕ) (at rest : ℕ) (r : Reached) → on room file at rest r ≡ after room file r (read_at file at rest)
unfolding on walked_from
on_next room file at rest r =
    ap (λ (l : list.Listing). walked_from room r l.sections l.ending) (listing_next file at rest) ∙ go (read_at file at rest)
  where
    go : (x : Read)
        → walked_from room r (list.listed_by x (listing_on file)).sections (list.listed_by x (listing_on file)).ending ≡ after room file r x
    go (read.Section s next) = refl
    go read.Over = refl
    go (read.Refused fault offset) = refl

-- a file that is not too long is walked from its start on
pub walked_on : (room : Room) (file : List ℕ) → length file ≤ 1099511627776 → walked room file ≡ on room file 0 0 (at_start file)
unfolding walked on
walked_on room file short =
    rw (le-ltb 1099511627776 (length file) short)
    (ap (λ (l : list.Listing). walked_from room (at_start file) l.sections l.ending) (listing_is file))

-- the outcome is that from any stand to which the walk comes
pub walks_to_on : (room : Room) (file : List ℕ) {at rest : ℕ} {r : Reached} → length file ≤ 1099511627776 → WalksTo room file at rest r
    → (walked room file).outcome ≡ (on room file at rest r).outcome
walks_to_on room file short from_start = ap (λ (t : Told). t.outcome) (walked_on room file short)
walks_to_on room file short (step_on {at} {rest} {r = r} {s = s} {cursor = cursor} c well passed) =
    walks_to_on room file short c
    ∙ ap (λ (t : Told). t.outcome) (on_next room file at rest r)
    ∙ ap (λ (x : Read). (after room file r x).outcome) well
    ∙ ap (λ (j : Judgement). (followed r s j (λ reached. on room file cursor.at.0 cursor.rest reached)).outcome) passed

module _ (room : Room) (file : List ℕ) (short : length file ≤ 1099511627776) where
  -- how a walk may end
  abbrev Ends : Outcome → Type 0
  Ends (Ok tt) = EndsClean room file
  Ends (Err stop) = Given room file (refusal_number stop.why) stop.place.0 stop.offset.0 (refusal_detail stop.why)

  over_ends : (at rest : ℕ) (r : Reached) → WalksTo room file at rest r → NoneInHand file at rest → Ends (concluded r list.over)
  unfolding concluded refusal_number refusal_detail
  over_ends at rest r c none = go (is_between r.order) (said r.order)
    where
      go : (t : Bool) → Said r.order t
          → Ends (pick t (Ok tt) (Err (refused_there refusal.InputOver r.last.place r.last.section.offset)))
      go true e = between short (walks_to_comes c) none e
      go false e = input_over short (walks_to_comes c) none e (last_there c e)

  ends_on : (fuel at rest : ℕ) (r : Reached) → length file - at < fuel → WalksTo room file at rest r
      → Ends (on room file at rest r).outcome
  unfolding concluded refusal_number refusal_detail
  ends_on zero at rest r few c = absurd (omega arith)
  ends_on (suc fuel) at rest r few c =
      subst (λ (t : Told). Ends t.outcome) (sym (on_next room file at rest r))
      (go (read_at file at rest) refl (tells file at rest) (ends_on fuel))
    where
      judged : (s : Section) (cursor : Cursor) → read_at file at rest ≡ read.Section s cursor
          → ((reached : Reached) → WalksTo room file cursor.at.0 cursor.rest reached
          → Ends (on room file cursor.at.0 cursor.rest reached).outcome)
          → (j : Judgement) → judgement room r s ≡ j → Judges room r s j
          → Ends (followed r s j (λ reached. on room file cursor.at.0 cursor.rest reached)).outcome
      judged s cursor e later _ f (halts row) = misjudged short (walks_to_comes c) (read_so file at rest e).well row
      judged s cursor e later _ f (passes_on {reached = reached} none arrives) = later reached (step_on c e f)

      go : (x : Read) → read_at file at rest ≡ x → Tells file at rest x
          → ((at rest : ℕ) (r : Reached) → length file - at < fuel → WalksTo room file at rest r → Ends (on room file at rest r).outcome)
          → Ends (after room file r x).outcome
      go _ e (refuses u) later = unread short (walks_to_comes c) u
      go _ e (reads {s} {rest'} w) later =
          let cursor : Cursor = record { at = record { 0 = s.offset.0 + s.length }; rest = rest' } in
          let forward = goes (reads_as file at rest e) in
          judged s cursor e (λ reached c'. later cursor.at.0 cursor.rest reached (omega arith) c') (judgement room r s) refl
          (judges room r s)
      go _ e (over none) later = over_ends at rest r c none

  pub walk_ends : Ends (walked room file).outcome
  walk_ends =
      subst (λ (t : Told). Ends t.outcome) (sym (walked_on room file short))
      (ends_on (suc (length file - 0)) 0 0 (at_start file) (omega arith) from_start)

-- refusals are numbered from 1 on
pub from_1 : (why : Refusal) → 1 ≤ refusal_number why
unfolding refusal_number
from_1 refusal.FileTooLong = omega arith
from_1 (refusal.Unreadable fault) = let from-2 = (fault_number_lem fault).0 in omega arith
from_1 refusal.InputOver = omega arith
from_1 (refusal.Misplaced number) = omega arith
from_1 (refusal.NoGrid number) = omega arith
from_1 refusal.SectionTableFull = omega arith
from_1 refusal.SubmessageTableFull = omega arith

-- an end numbered 0 is a clean one
pub is_clean : (o : Outcome) → (end_of o).outcome ≡ 0 → o ≡ Ok tt
unfolding end_of
is_clean (Ok tt) e = refl
is_clean (Err stop) e = absurd (omega (arith, from_1 stop.why))

-- a refusal's numbers
abbrev Numbers : Room → List ℕ → End → Type 0
Numbers room file e = Given room file e.outcome e.place e.offset e.detail

abbrev numbers : ℕ → ℕ → ℕ → ℕ → End
numbers n p o d = record { outcome = n; place = p; offset = o; detail = d }

same_numbers : (n n' p p' o o' d d' : ℕ) → n ≡ n' → p ≡ p' → o ≡ o' → d ≡ d' → numbers n' p' o' d' ≡ numbers n p o d
same_numbers n n' p p' o o' d d' e f g h = rw (e, f, g, h) refl

-- the outcome at a stand, by the read made there
at_read : (room : Room) (file : List ℕ) (at rest : ℕ) (r : Reached) (x : Read) → length file ≤ 1099511627776 → WalksTo room file at rest r
    → read_at file at rest ≡ x → (walked room file).outcome ≡ (after room file r x).outcome
at_read room file at rest r x short c e =
    walks_to_on room file short c
    ∙ ap (λ (t : Told). t.outcome) (on_next room file at rest r)
    ∙ ap (λ (x : Read). (after room file r x).outcome) e

pub walk_refused_exactly_when : WalkRefusedExactlyWhen
unfolding walked concluded end_of refusal_number refusal_detail
walk_refused_exactly_when room file n p o d some = (there (ltb 1099511627776 (length file)) refl, back n p o d)
  where
    finish : (x : Outcome) → end_of x ≡ numbers n p o d → (short : length file ≤ 1099511627776) → Ends room file short x
        → Given room file n p o d
    finish (Ok tt) e short g = absurd (some (sym (ap (λ (e : End). e.outcome) e)))
    finish (Err stop) e short g = subst (Numbers room file) e g

    there : (t : Bool) → ltb 1099511627776 (length file) ≡ t → end_of (walked room file).outcome ≡ numbers n p o d
        → Given room file n p o d
    there true long e =
        subst (Numbers room file) (rw long at e) (too_long (ltb-true 1099511627776 (length file) long))
    there false fits e =
        let short = ltb-false 1099511627776 (length file) fits in finish (walked room file).outcome e short (walk_ends room file short)

    back : (n p o d : ℕ) → Given room file n p o d → end_of (walked room file).outcome ≡ numbers n p o d
    back _ _ _ _ (too_long long) = rw (lt-ltb 1099511627776 (length file) long)
    back n _ o d (unread {b} short c u) =
        let k = unreadable_refused file b.at b.rest n o d u in
        let at = comes_walks_to c in
        ap end_of (at_read room file b.at b.rest at.reached (refused_at k.fault o) short at.reaches k.refuses)
        ∙ same_numbers n _ b.sections _ o _ d _ k.numbered (sym (ap (λ (b : Stand). b.sections) at.stood)) refl k.detailed
    back _ _ _ _ (input_over {b} {last} short c none other count) =
        let at = comes_walks_to c in
        let r = at.reached in
        let inside : Not (r.order ≡ BetweenMessages) = λ z. other (sym (ap (λ (b : Stand). b.order) at.stood) ∙ z) in
        let before = last_there at.reaches inside in
        let sections : r.sections ≡ b.sections = ap (λ (b : Stand). b.sections) at.stood in
        ap end_of (at_read room file b.at b.rest r read.Over short at.reaches (none_read file b.at b.rest none))
        ∙ rw (not_between r.order inside)
        (same_numbers 10 10 last _ b.last _ 0 0 refl (omega arith) (sym (ap (λ (b : Stand). b.last) at.stood)) refl)
    back n _ _ d (misjudged {b} {s} {rest'} short c well row) =
        let at = comes_walks_to c in
        let r = at.reached in
        let k =
        stopped_there room r s n d
        (subst (λ (b : Stand). FirstRow (rows_after_read room b s.number) n d) (sym at.stood) row) in
        let cursor : Cursor = record { at = record { 0 = s.offset.0 + s.length }; rest = rest' } in
        ap end_of
        (at_read room file b.at b.rest r (read.Section s cursor) short at.reaches
        (section_there file b.at b.rest s rest' well)
        ∙ ap (λ (j : Judgement). (followed r s j (λ reached. on room file cursor.at.0 cursor.rest reached)).outcome) k.halts)
        ∙ same_numbers n _ b.sections _ s.offset.0 _ d _ k.numbered (sym (ap (λ (b : Stand). b.sections) at.stood)) refl k.detailed

pub walk_clean_exactly_when : WalkCleanExactlyWhen
unfolding walked concluded is_between end_of refusal_number
walk_clean_exactly_when room file = (there (ltb 1099511627776 (length file)) refl, back)
  where
    finish : (x : Outcome) → end_of x ≡ numbers 0 0 0 0 → (short : length file ≤ 1099511627776) → Ends room file short x → EndsClean room file
    finish (Ok tt) e short g = g
    finish (Err stop) e short g =
        let some = from_1 stop.why in
        let none : refusal_number stop.why ≡ 0 = ap (λ (e : End). e.outcome) e in
        absurd (omega arith)

    there : (t : Bool) → ltb 1099511627776 (length file) ≡ t → end_of (walked room file).outcome ≡ numbers 0 0 0 0 → EndsClean room file
    there true long e = let z : ◌≡◌ {A = ℕ} 1 0 = ap (λ (e : End). e.outcome) (rw long at e) in absurd (omega arith)
    there false fits e =
        let short = ltb-false 1099511627776 (length file) fits in finish (walked room file).outcome e short (walk_ends room file short)

    back : EndsClean room file → end_of (walked room file).outcome ≡ numbers 0 0 0 0
    back (between {b} short c none clean) =
        let at = comes_walks_to c in
        let r = at.reached in
        let shut : r.order ≡ BetweenMessages = ap (λ (b : Stand). b.order) at.stood ∙ clean in
        ap end_of (at_read room file b.at b.rest r read.Over short at.reaches (none_read file b.at b.rest none)) ∙ rw shut refl
