-- What the order of sections tells at each stand: which sections of the message in hand are read, and whether a section 7 waits for its line.
use Prim.Native.Nat.{ℕ, ◌≤◌, ◌<◌}
use native.Mathlib.Omega.{arith}
use mathlib.Core.Path.{◌≡◌, refl, sym, subst}
use mathlib.Core.Bool.{true, false}
use mathlib.Core.Logic.{◌⊎◌, inl, inr}
use lib.Dec.{eqb}
use borrow.Author.Tests.{eqb-true, ne_eqb, not-false}
use Rattle.octets.specs.Words.{pick, Not}
use Rattle.framing.proofs.Tests.{by_test}
use Rattle.order.specs.Order.{judged, completes, is_between}
use Rattle.order.specs.declared.Order.{Order}
use Rattle.order.specs.declared.Order.TheVariants.{
  BetweenMessages,
  AfterIndicator,
  AfterIdentification,
  AfterLocalUse,
  AfterGrid,
  AfterProduct,
  AfterRepresentation,
  AfterBitMap,
  AfterData,
  SubmessageStart,
}
use Rattle.order.specs.declared.Judged.{Judged}
use Rattle.order.specs.declared.Judged.TheVariants as says
use Rattle.order.proofs.Laws.{closes_there}

-- the sections of the submessage in hand that are read: those with a lower number, but that a section 2 may be absent
abbrev pub level : Order → ℕ
level BetweenMessages = 0
level AfterIndicator = 1
level AfterIdentification = 2
level AfterLocalUse = 2
level AfterGrid = 4
level AfterProduct = 5
level AfterRepresentation = 6
level AfterBitMap = 7
level AfterData = 8
level SubmessageStart = 8

-- the sections 7 that have no line yet
abbrev pub waiting : Order → ℕ
waiting BetweenMessages = 0
waiting AfterIndicator = 0
waiting AfterIdentification = 0
waiting AfterLocalUse = 0
waiting AfterGrid = 0
waiting AfterProduct = 0
waiting AfterRepresentation = 0
waiting AfterBitMap = 0
waiting AfterData = 1
waiting SubmessageStart = 0

-- a section that fits opens a message, or is one of 1 to 7 inside it; after it, those with a lower number are read
pub data Fitting (n : ℕ) : Order → Order → Type 0 where
  opening : n ≡ 0 → Fitting n BetweenMessages AfterIndicator
  within : {order next : Order} → is_between order ≡ false → is_between next ≡ false → 1 ≤ n → n < 8 → waiting order ≡ 0
      → waiting next ≡ pick (eqb n 7) 1 0
      → ((k : ℕ) → k < level next → Not (k ≡ 2) → Not (k ≡ n) → k < level order)
      → Fitting n order next

abbrev IfFits : Order → ℕ → Judged → Type 0
IfFits order n (says.Fits next) = Fitting n order next
IfFits order n says.Closes = Unit
IfFits order n says.Misplaced = Unit
IfFits order n says.NoGrid = Unit

by_number : (order next : Order) (n wanted : ℕ) → is_between order ≡ false → is_between next ≡ false → 1 ≤ wanted → wanted < 8
    → waiting order ≡ 0 → waiting next ≡ pick (eqb wanted 7) 1 0
    → ((k : ℕ) → k < level next → Not (k ≡ 2) → Not (k ≡ wanted) → k < level order)
    → eqb n wanted ≡ true → Fitting n order next
by_number order next n wanted was ajar low high none seven lower same =
    subst (λ (k : ℕ). Fitting k order next) (sym (eqb-true n wanted same)) (within was ajar low high none seven lower)

if_fits : (order : Order) (n : ℕ) → completes order n ≡ false → IfFits order n (judged order n)
unfolding judged completes is_between
if_fits BetweenMessages n off = by_test (IfFits BetweenMessages n) (eqb n 0) (λ e. opening (eqb-true n 0 e)) (λ e. tt)
if_fits AfterIndicator n off =
    by_test (IfFits AfterIndicator n) (eqb n 1)
    (by_number AfterIndicator AfterIdentification n 1 refl refl (omega arith) (omega arith) refl refl (λ k a b c. omega arith)) (λ e. tt)
if_fits AfterIdentification n off =
    by_test (IfFits AfterIdentification n) (eqb n 2)
    (by_number AfterIdentification AfterLocalUse n 2 refl refl (omega arith) (omega arith) refl refl (λ k a b c. omega arith)) λ e.
    by_test (IfFits AfterIdentification n) (eqb n 3)
    (by_number AfterIdentification AfterGrid n 3 refl refl (omega arith) (omega arith) refl refl (λ k a b c. omega arith)) λ e.
    by_test (IfFits AfterIdentification n) (eqb n 4) (λ e. tt) (λ e. tt)
if_fits AfterLocalUse n off =
    by_test (IfFits AfterLocalUse n) (eqb n 3)
    (by_number AfterLocalUse AfterGrid n 3 refl refl (omega arith) (omega arith) refl refl (λ k a b c. omega arith)) (λ e. tt)
if_fits AfterGrid n off =
    by_test (IfFits AfterGrid n) (eqb n 4)
    (by_number AfterGrid AfterProduct n 4 refl refl (omega arith) (omega arith) refl refl (λ k a b c. omega arith)) (λ e. tt)
if_fits AfterProduct n off =
    by_test (IfFits AfterProduct n) (eqb n 5)
    (by_number AfterProduct AfterRepresentation n 5 refl refl (omega arith) (omega arith) refl refl (λ k a b c. omega arith)) (λ e. tt)
if_fits AfterRepresentation n off =
    by_test (IfFits AfterRepresentation n) (eqb n 6)
    (by_number AfterRepresentation AfterBitMap n 6 refl refl (omega arith) (omega arith) refl refl (λ k a b c. omega arith)) (λ e. tt)
if_fits AfterBitMap n off =
    by_test (IfFits AfterBitMap n) (eqb n 7)
    (by_number AfterBitMap AfterData n 7 refl refl (omega arith) (omega arith) refl refl (λ k a b c. omega arith)) (λ e. tt)
if_fits AfterData n off = rw (not-false (eqb n 8) off) tt
if_fits SubmessageStart n off =
    by_test (IfFits SubmessageStart n) (eqb n 2)
    (by_number SubmessageStart AfterLocalUse n 2 refl refl (omega arith) (omega arith) refl refl (λ k a b c. omega arith)) λ e.
    by_test (IfFits SubmessageStart n) (eqb n 3)
    (by_number SubmessageStart AfterGrid n 3 refl refl (omega arith) (omega arith) refl refl (λ k a b c. omega arith)) λ e.
    by_test (IfFits SubmessageStart n) (eqb n 4)
    (by_number SubmessageStart AfterProduct n 4 refl refl (omega arith) (omega arith) refl refl (λ k a b c. omega arith)) (λ e. tt)

pub fitting : (order : Order) (n : ℕ) {next : Order} → completes order n ≡ false → judged order n ≡ says.Fits next → Fitting n order next
fitting order n off e = subst (IfFits order n) e (if_fits order n off)

pub fitting_waits : {n : ℕ} {order next : Order} → Fitting n order next → (waiting order ≡ 0) × (waiting next ≡ pick (eqb n 7) 1 0)
fitting_waits {n} (opening zeroth) = (refl, rw (ne_eqb n 7 (λ e. omega arith)))
fitting_waits (within was ajar low high none seven lower) = (none, seven)

-- a section that neither completes a submessage nor closes its message comes where none waits
pub idle : (order : Order) (n : ℕ) → completes order n ≡ false → Not (judged order n ≡ says.Closes) → waiting order ≡ 0
unfolding completes
idle BetweenMessages n off other = refl
idle AfterIndicator n off other = refl
idle AfterIdentification n off other = refl
idle AfterLocalUse n off other = refl
idle AfterGrid n off other = refl
idle AfterProduct n off other = refl
idle AfterRepresentation n off other = refl
idle AfterBitMap n off other = refl
idle AfterData n off other = absurd (other (closes_there AfterData n (refl, eqb-true n 8 (not-false (eqb n 8) off))))
idle SubmessageStart n off other = refl

-- a section 7 waits after 7, and nowhere else
pub waits : (order : Order) → (waiting order ≡ 0) ⊎ (order ≡ AfterData)
waits BetweenMessages = inl refl
waits AfterIndicator = inl refl
waits AfterIdentification = inl refl
waits AfterLocalUse = inl refl
waits AfterGrid = inl refl
waits AfterProduct = inl refl
waits AfterRepresentation = inl refl
waits AfterBitMap = inl refl
waits AfterData = inr refl
waits SubmessageStart = inl refl
