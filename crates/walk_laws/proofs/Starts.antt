-- Where a message starts: at every stand between messages nothing of one is to come, and then a section 0 is read.
use Prim.Native.Nat.{ℕ, ◌-◌, ◌≤◌}
use native.Mathlib.Omega.{arith}
use mathlib.Core.Path.{◌≡◌, refl, sym, ap, subst, ◌∙◌}
use mathlib.Core.Bool.{true}
use mathlib.Core.List.{List, [], ◌∷◌}
use mathlib.Core.Logic.{inl, inr}
use Rattle.octets.specs.Words.{Not}
use Rattle.framing.specs.declared.read.Section.{Section}
use Rattle.framing.proofs.OneRead.{reads_as, starts_with_0, ends_with_8}
use Rattle.framing.proofs.Tests.{never_both}
use Rattle.order.specs.Order.{is_between}
use Rattle.order.specs.declared.Order.{Order}
use Rattle.order.specs.declared.Order.TheVariants.{BetweenMessages}
use Rattle.order.proofs.Laws.{apart}
use Rattle.index.specs.declared.line.Line.{Line}
use Rattle.index.specs.declared.bounds.Room.{Room}
use Rattle.index.specs.Walk.{Reached, walked}
use Rattle.walk_laws.specs.Rows.{FirstRow}
use Rattle.walk_laws.specs.ExactlyWhen.{
  CanCome,
  Stand,
  rows_after_read,
  order_after,
  Given,
  too_long,
  unread,
  input_over,
  misjudged,
}
use Rattle.walk_laws.specs.Laws.{number_at}
use Rattle.walk_laws.specs.OneStep.{no_number, misplaced_there}
use Rattle.walk_laws.specs.Starts.{MessagesStartWith0, MisplacedIsInside, BareListsKeepIt, WhereMessagesStart}
use Rattle.walk_laws.proofs.OneRead.{section_there}
use Rattle.walk_laws.proofs.WalksTo.{WalksTo, from_start, step_on, comes_walks_to, passed_so}
use Rattle.walk_laws.proofs.WholeWalk.{walk_refused_exactly_when}
use Rattle.walk_laws.proofs.OneStep.{one_step_exactly_when}
use Rattle.walk_laws.proofs.Passing.{Way, within, gone_further, shut, passing}
use Rattle.walk_laws.proofs.Counts.{to_9}
use Rattle.walk_laws.proofs.Places.{before, refused_told}

-- between messages nothing of a message is to come
pub settled : {room : Room} {file : List ℕ} {at rest : ℕ} {r : Reached} → WalksTo room file at rest r → is_between r.order ≡ true → rest ≡ 0
settled from_start between = refl
settled {room} {file} (step_on {at} {rest} {r = r} {reached = reached} {s = s} {cursor = cursor} c e f) between = by_way (passing room r s f).way
  where
    by_way : {lines : List Line} {closed : ℕ} → Way r s lines closed reached → cursor.rest ≡ 0
    by_way (within below inside) = absurd (never_both between inside)
    by_way (gone_further below inside after_7 line) = absurd (never_both between inside)
    by_way (shut is-8 closed after_7 line) = ends_with_8 (reads_as file at rest e) is-8

pub messages_start_with_0 : MessagesStartWith0
unfolding is_between
messages_start_with_0 room file b s rest' c between well =
    let at = comes_walks_to c in
    let order : at.reached.order ≡ BetweenMessages = ap (λ (b : Stand). b.order) at.stood ∙ between in
    starts_with_0 (reads_as file b.at b.rest (section_there file b.at b.rest s rest' well)) (settled at.reaches (rw order))

-- inside a message a section was told last, and it is no section 8
inside : {room : Room} {file : List ℕ} {at rest : ℕ} {r : Reached} → WalksTo room file at rest r → Not (r.order ≡ BetweenMessages)
    → (1 ≤ r.sections) × Not (r.last.section.number ≡ 8)
inside from_start other = absurd (other refl)
inside {room} (step_on {r = r} {s = s} c e f) other =
    let arrives = (passed_so room r s f).arrives in (
      omega (arith, arrives.one),
      λ is-8. other (arrives.order ∙ ap order_after (rw arrives.last at is-8)),
    )

-- 11 is given of a number that can't come
misfit : (room : Room) (b : Stand) (number n d : ℕ) → FirstRow (rows_after_read room b number) n d → n ≡ 11 → Not (CanCome b.order number)
misfit room b number n d (inl (h, e, f)) is-11 = absurd (omega arith)
misfit room b number n d (inr (_, inl (h, e, f))) is-11 = absurd (omega arith)
misfit room b number n d (inr (_, inr (_, inl (h, e, f)))) is-11 = h
misfit room b number n d (inr (_, inr (_, inr (_, inl (h, e, f))))) is-11 = absurd (omega arith)
misfit room b number n d (inr (_, inr (_, inr (_, inr (_, inl (h, e, f)))))) is-11 = absurd (omega arith)
misfit room b number n d (inr (_, inr (_, inr (_, inr (_, inr (_, h)))))) is-11 = absurd h

given_inside : (room : Room) (file : List ℕ) (n p o d : ℕ) → Given room file n p o d → n ≡ 11
    → (1 ≤ p) × Not (number_at (walked room file).sections (p - 1) ≡ 8)
given_inside room file _ _ _ _ (too_long long) is-11 = absurd (omega arith)
given_inside room file n _ o d (unread {b} short c u) is-11 = let k = to_9 file b.at b.rest n o d u in absurd (omega arith)
given_inside room file _ _ _ _ (input_over short c none other last) is-11 = absurd (omega arith)
given_inside room file n _ _ d (misjudged {b} {s} {rest'} short c well row) is-11 =
    let at = comes_walks_to c in
    let r = at.reached in
    let told = before room file short at.reaches in
    let sections : r.sections ≡ b.sections = ap (λ (b : Stand). b.sections) at.stood in
    let last = inside at.reaches open_there in
    let there = told.last last.0 in
    let place : b.sections - 1 ≡ r.last.place.0 = omega (arith, there.0) in
    let number : number_at (walked room file).sections (b.sections - 1) ≡ r.last.section.number =
    ap (λ (t : List Section). number_at t (b.sections - 1)) (refused_told room file short c well row)
    ∙ ap (λ (k : ℕ). number_at told.done k) place
    ∙ ap (λ (s : Section). s.number) there.1 in
    (omega (arith, last.0), λ is-8. last.1 (sym number ∙ is-8))
  where
    open_there : Not ((comes_walks_to c).reached.order ≡ BetweenMessages)
    open_there e =
        let between : b.order ≡ BetweenMessages = sym (ap (λ (b : Stand). b.order) (comes_walks_to c).stood) ∙ e in
        misfit room b s.number n d row is-11
        (subst (λ (order : Order). CanCome order s.number) (sym between) (messages_start_with_0 room file b s rest' c between well))

pub misplaced_is_inside : MisplacedIsInside
misplaced_is_inside room file p o d e =
    given_inside room file 11 p o d ((walk_refused_exactly_when room file 11 p o d (λ z. omega arith)).0 e) refl

pub bare_lists_keep_it : BareListsKeepIt
bare_lists_keep_it number more other =
    (one_step_exactly_when.one_order (number ∷ more) 11 0 number).1
    (misplaced_there [] more number no_number other (λ no_grid. apart (λ e. cc) no_grid.0))

pub where_messages_start : WhereMessagesStart
where_messages_start =
    record { with_0 = messages_start_with_0; misplaced_inside = misplaced_is_inside; bare_lists = bare_lists_keep_it }
