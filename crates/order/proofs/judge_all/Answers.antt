-- `judge_all` meets its contract. The loop keeps `Kept`: what is left, judged, is the whole list judged.
use Rattle.std.specs.Prelude.{Ok, Err}
use mathlib.Core.Path.{◌≡◌, refl, sym, ◌∙◌}
use mathlib.Core.List.{List, [], ◌∷◌}
use Prim.Native.Nat.{ℕ, ◌+◌, ◌≤◌, ◌<◌}
use native.Mathlib.Numerals.{add-one}
use native.Mathlib.Omega.{arith}
use lib.ListN.{length, drop, get_or}
use lib.Seq.{drop-cons, drop-length}
use Rattle.octets.specs.Words.{pick}
use Rattle.order.specs.Order.{judged, is_between, then_judged, order_from, order_of}
use Rattle.order.specs.declared.Order.{Order}
use Rattle.order.specs.declared.Order.TheVariants.{BetweenMessages}
use Rattle.order.specs.declared.Judged.{Judged}
use Rattle.order.specs.declared.Judged.TheVariants.{Fits, Closes}
use Rattle.order.proofs.judge_all.Goals as goal
use Rattle.order.proofs.judge_all.Goals.{in-Fits, in-Closes}
use Rattle.order.proofs.judge_all.Invariants.{Kept}
use Rattle.order.specs.declared.Disorder.TheVariants.{InputOver}

start : (numbers : List ℕ) → Kept numbers BetweenMessages 0
unfolding order_of
start numbers = record { within = omega arith; same = refl }

module _ {numbers : List ℕ} {order : Order} {i : ℕ} (k : Kept numbers order i) where
  -- nothing is left
  over : length numbers ≤ i → pick (is_between order) (Ok tt) (Err InputOver) ≡ order_of numbers
  unfolding order_from
  over ended =
      let last : i ≡ length numbers = omega (arith, k.within) in
      let left : drop i numbers ≡ [] = rw (last, drop-length) in
      rw left at k.same

  module _ (inside : i < length numbers) where
    -- the number at i is judged, and the rest after it
    decides : {w : Judged} → judged order (get_or numbers i 0) ≡ w
        → then_judged w i (λ next. order_from next (i + 1) (drop (i + 1) numbers)) ≡ order_of numbers
    unfolding order_from
    decides e =
        let left : drop i numbers ≡ get_or numbers i 0 ∷ drop (i + 1) numbers = rw (add-one, drop-cons numbers i 0) in
        rw (left, e) at k.same

    fits : {next : Order} → judged order (get_or numbers i 0) ≡ Fits next → Kept numbers next (i + 1)
    fits e = record { within = omega arith; same = decides e }

    closes : judged order (get_or numbers i 0) ≡ Closes → Kept numbers BetweenMessages (i + 1)
    closes e = record { within = omega arith; same = decides e }

pub loop-i-init : goal.loop-i-init
loop-i-init c = start _

pub returns-in-Misplaced : goal.returns-in-Misplaced
returns-in-Misplaced c = decides c.loop-i.invariant c.loop-i-test.true (sym c.judge-judged.ensures ∙ c.in-Misplaced.is)

pub returns-in-NoGrid : goal.returns-in-NoGrid
returns-in-NoGrid c = decides c.loop-i.invariant c.loop-i-test.true (sym c.judge-judged.ensures ∙ c.in-NoGrid.is)

pub loop-i-preserved : goal.loop-i-preserved
loop-i-preserved c =
    let answer = sym c.judge-judged.ensures in
    let kept = c.loop-i.invariant in
    let inside = c.loop-i-test.true in
    elim c.match-judged.branch [
      | in-Fits w ↦ rw w.order-is (fits kept inside (answer ∙ w.in-Fits.is))
      | in-Closes w ↦ rw w.order-is (closes kept inside (answer ∙ w.in-Closes.is))
    ]

pub returns-then-between_messages : goal.returns-then-between_messages
returns-then-between_messages c =
    let between = sym c.between_messages.ensures ∙ c.if-between_messages.true in
    rw between at (over c.loop-i.invariant c.loop-i-test.false)

pub returns : goal.returns
returns c =
    let within-one = sym c.between_messages.ensures ∙ c.if-between_messages.false in
    rw within-one at (over c.loop-i.invariant c.loop-i-test.false)
