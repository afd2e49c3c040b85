-- Each number has one spelling, the computed one, whatever the count of digits that it may have.
use Prim.Native.Nat.{ℕ, zero, suc, ◌+◌, ◌/◌, ◌%◌, ◌<◌, ◌≤◌, ◌^◌}
use native.Mathlib.Omega.{arith}
use native.Mathlib.Nat.{pow-suc, div-add-mod'}
use mathlib.Core.Path.{◌≡◌, refl, sym, ap, ap₂, subst, ◌∙◌}
use mathlib.Core.List.{List, [], ◌∷◌, ◌++◌}
use lib.Dec.{ltb}
use lib.ListN.{length, get_or, drop, length-append}
use borrow.Author.Tests.{ltb-true, ltb-false, lt-ltb}
use Rattle.framing.proofs.Tests.{by_test}
use Rattle.index.specs.Pins.{Every}
use Rattle.index.proofs.Pins.{every_append}
use Rattle.entries.specs.Decimal.{Spelling, digit, behind, decimal_in, decimal}

-- the computed spelling spells its number
pub spells_in : (more n : ℕ) → n < 10 ^ suc more → Spelling (decimal_in more n) n
unfolding decimal_in
spells_in zero n small = digit {d = n} (omega arith)
spells_in (suc more) n small =
    by_test (λ (s : List ℕ). Spelling s n) (ltb n 10) (λ e. digit (ltb-true n 10 e)) λ e.
    let large = ltb-false n 10 e in
    let less : n / 10 < 10 ^ suc more = omega (arith, rw pow-suc at small) in
    subst (λ (m : ℕ). Spelling (decimal_in more (n / 10) ++ ((48 + n % 10) ∷ [])) m) (div-add-mod' n 10)
    (behind (spells_in more (n / 10) less) (omega arith) (omega arith))

pub decimal_spells : (n : ℕ) → n < 10 ^ 20 → Spelling (decimal n) n
unfolding decimal
decimal_spells n small = spells_in 19 n small

-- two spellings of one number are the same
pub one_spelling : {s t : List ℕ} {m n : ℕ} → Spelling s m → Spelling t n → m ≡ n → s ≡ t
one_spelling (digit p) (digit q) e = rw e
one_spelling (digit p) (behind t some q) e = absurd (omega arith)
one_spelling (behind s some p) (digit q) e = absurd (omega arith)
one_spelling (behind {n = m} {d = c} front some p) (behind {n = n} {d = d} front' some' q) e =
    let high : m ≡ n = omega arith in
    let low : c ≡ d = omega arith in
    rw (one_spelling front front' high, low)

-- so it is the computed one, also where fewer digits are enough
pub is_decimal : {s : List ℕ} {n : ℕ} → Spelling s n → n < 10 ^ 20 → s ≡ decimal n
is_decimal {n = n} so small = one_spelling so (decimal_spells n small) refl

-- a digit alone, and the last digit behind the others
pub decimal_digit : (n : ℕ) → n < 10 → decimal n ≡ (48 + n) ∷ []
unfolding decimal decimal_in
decimal_digit n low = simp (lt-ltb n 10 low)

pub decimal_more : (n : ℕ) → 10 ≤ n → n < 10 ^ 20 → decimal n ≡ decimal (n / 10) ++ ((48 + n % 10) ∷ [])
decimal_more n high small =
    let front = decimal_spells (n / 10) (omega arith) in
    sym (is_decimal
    (subst (λ (m : ℕ). Spelling (decimal (n / 10) ++ ((48 + n % 10) ∷ [])) m) (div-add-mod' n 10)
    (behind front (omega arith) (omega arith)))
    small)

-- its digits: so many at most, and one at least
length_in : (more n : ℕ) → length (decimal_in more n) ≤ suc more
unfolding decimal_in
length_in zero n = omega arith
length_in (suc more) n =
    let few = length_in more (n / 10) in
    by_test (λ (s : List ℕ). length s ≤ suc (suc more)) (ltb n 10) (λ e. omega arith) λ e. simp length-append (omega arith)

pub decimal_length : (more n : ℕ) → n < 10 ^ suc more → n < 10 ^ 20 → length (decimal n) ≤ suc more
decimal_length more n few small =
    subst (λ (s : List ℕ). length s ≤ suc more) (is_decimal (spells_in more n few) small) (length_in more n)

pub spelling_length : {s : List ℕ} {n : ℕ} → Spelling s n → 0 < length s
spelling_length (digit low) = omega arith
spelling_length (behind front some low) = simp length-append (omega arith)

-- what is so of every digit is so of each octet of a spelling
pub spelling_every : (So : ℕ → Type 0) → ((d : ℕ) → d < 10 → So (48 + d)) → {s : List ℕ} {n : ℕ} → Spelling s n → Every So s
spelling_every So digits (digit {d = d} low) = (digits d low, tt)
spelling_every So digits (behind {front = front} {d = d} so some low) =
    every_append So front ((48 + d) ∷ []) (spelling_every So digits so) (digits d low, tt)

-- two texts that end in one octet
last_apart : (a b : List ℕ) (x y : ℕ) → a ++ (x ∷ []) ≡ b ++ (y ∷ []) → (a ≡ b) × (x ≡ y)
last_apart [] [] x y e = (refl, ap (λ (l : List ℕ). get_or l 0 0) e)
last_apart [] (p ∷ []) x y e = absurd (let z = ap length e in omega arith)
last_apart [] (p ∷ q ∷ b) x y e = absurd (let z = ap length e in omega arith)
last_apart (p ∷ []) [] x y e = absurd (let z = ap length e in omega arith)
last_apart (p ∷ q ∷ a) [] x y e = absurd (let z = ap length e in omega arith)
last_apart (p ∷ a) (q ∷ b) x y e =
    let rest = last_apart a b x y (ap (λ (l : List ℕ). drop 1 l) e) in
    (ap₂ (λ (o : ℕ) (l : List ℕ). o ∷ l) (ap (λ (l : List ℕ). get_or l 0 0) e) rest.0, rest.1)

-- a text spells one number
pub one_number : {s t : List ℕ} {m n : ℕ} → Spelling s m → Spelling t n → s ≡ t → m ≡ n
one_number (digit {d = c} p) (digit {d = d} q) e =
    let same : 48 + c ≡ 48 + d = ap (λ (l : List ℕ). get_or l 0 0) e in
    omega arith
one_number (digit {d = c} p) (behind {front = front} {d = d} so some q) e =
    let long : 1 ≡ length front + 1 = ap length e ∙ length-append front ((48 + d) ∷ []) in
    absurd (omega (arith, spelling_length so))
one_number (behind {front = front} {d = c} so some p) (digit {d = d} q) e =
    let long : length front + 1 ≡ 1 = sym (length-append front ((48 + c) ∷ [])) ∙ ap length e in
    absurd (omega (arith, spelling_length so))
one_number (behind {front = front} {n = m} {d = c} so some p) (behind {front = front'} {n = n} {d = d} so' some' q) e =
    let apart = last_apart front front' (48 + c) (48 + d) e in
    let high : m ≡ n = one_number so so' apart.0 in
    let low : 48 + c ≡ 48 + d = apart.1 in
    omega arith
