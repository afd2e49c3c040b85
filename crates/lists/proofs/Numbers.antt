-- A number is taken off a text exactly where a spelling of it stands first, closed, and it is at most
-- the most.
use Prim.Native.Nat.{ℕ, zero, suc, ◌+◌, ◌-◌, ◌*◌, ◌≤◌, ◌<◌}
use native.Mathlib.Omega.{arith}
use mathlib.Core.Path.{◌≡◌, refl, ap, subst, ◌∙◌}
use mathlib.Core.Bool.{true, false, false≢true}
use mathlib.Core.List.{List, [], ◌∷◌, ◌++◌, append_assoc, append-nil}
use lib.Dec.{eqb, ltb}
use lib.ListN.{drop}
use borrow.Author.Tests.{ltb-false, eqb-true, eqb-false, lt-ltb, le-ltb, eq-eqb, ne_eqb}
use Rattle.framing.proofs.Tests.{by_test}
use Rattle.entries.specs.Decimal.{Spelling, digit, behind}
use Rattle.lists.specs.Line.{Taken, taken, not_taken, then_take, next_is, is_digit, take_digits, take_number}
use Rattle.lists.proofs.Places.{digit_low, digit_high}

-- it is so of what is taken, if anything is
abbrev pub Where : {A : Type 0} → (A → List ℕ → Type 0) → Taken A → Type 0
Where So (taken a rest) = So a rest
Where So not_taken = Unit

pub where_so : {A : Type 0} {So More : A → List ℕ → Type 0} (t : Taken A)
    → ((a : A) (rest : List ℕ) → So a rest → More a rest) → Where So t → Where More t
where_so (taken a rest) more so = more a rest so
where_so not_taken more so = tt

-- and of what is taken then
pub where_then : {A B : Type 0} {So : A → List ℕ → Type 0} (More : B → List ℕ → Type 0)
    (go : A → List ℕ → Taken B) (t : Taken A) → Where So t
    → ((a : A) (rest : List ℕ) → So a rest → Where More (go a rest)) → Where More (then_take t go)
where_then More go (taken a rest) so more = more a rest so
where_then More go not_taken so more = tt

-- what says it stands first in the text, closed; and it is within its bound
pub record Stands {A : Type 0} (Says : List ℕ → A → Type 0) (Small : A → Type 0) (close : ℕ)
    (text : List ℕ) (a : A) (rest : List ℕ) : Type 0 where
  pub spelling : List ℕ
  pub says : Says spelling a
  pub small : Small a
  pub stands : text ≡ spelling ++ (close ∷ rest)

-- an octet that comes next stands first
pub next_stands : (octet : ℕ) (text : List ℕ) → next_is octet text ≡ true
    → text ≡ octet ∷ drop 1 text
unfolding next_is
next_stands octet [] e = absurd (false≢true e)
next_stands octet (next ∷ more) e = ap (λ (o : ℕ). o ∷ more) (eqb-true next octet e)

-- a digit's value
is_digit_lem : (d : ℕ) → d < 10 → is_digit (48 + d) ≡ true
unfolding is_digit
is_digit_lem d small = rw (le-ltb (48 + d) 48 (omega arith), lt-ltb (48 + d) 58 (omega arith))

-- an octet that is a digit spells its value alone, and behind a spelling
alone : (octet : ℕ) → is_digit octet ≡ true → Spelling (octet ∷ []) (octet - 48)
alone octet e =
    let low = digit_low octet e in
    let high = digit_high octet e in
    let is : 48 + (octet - 48) ≡ octet = omega arith in
    subst (λ (o : ℕ). Spelling (o ∷ []) (octet - 48)) is (digit {d = octet - 48} (omega arith))

after : (octet : ℕ) {front : List ℕ} {n : ℕ} → is_digit octet ≡ true → Spelling front n → 0 < n
    → Spelling (front ++ (octet ∷ [])) (n * 10 + (octet - 48))
after octet {front} {n} e so some =
    let low = digit_low octet e in
    let high = digit_high octet e in
    let is : 48 + (octet - 48) ≡ octet = omega arith in
    subst (λ (o : ℕ). Spelling (front ++ (o ∷ [])) (n * 10 + (octet - 48))) is
    (behind {d = octet - 48} so some (omega arith))

-- what digits behind a spelling spell with it
abbrev Behind : List ℕ → List ℕ → ℕ → Type 0
Behind front more n = Spelling (front ++ more) n

digits_spell : (most close value : ℕ) (text front : List ℕ) → Spelling front value → 0 < value
    → value ≤ most
    → Where (Stands (Behind front) (λ n. n ≤ most) close text) (take_digits most close value text)
unfolding take_digits
digits_spell most close value [] front so some small = tt
digits_spell most close value (octet ∷ more) front so some small =
    let So = Stands (Behind front) (λ (n : ℕ). n ≤ most) close (octet ∷ more) in
    let longer = value * 10 + (octet - 48) in
    by_test (Where So) (is_digit octet)
    (λ is_one. by_test (Where So) (ltb most longer) (λ over. tt) λ under.
    where_so (take_digits most close longer more)
    (λ n rest later. record {
      spelling = octet ∷ later.spelling;
      says =
          subst (λ (l : List ℕ). Spelling l n) (append_assoc front (octet ∷ []) later.spelling)
          later.says;
      small = later.small;
      stands = ap (λ (l : List ℕ). octet ∷ l) later.stands;
    })
    (digits_spell most close longer more (front ++ (octet ∷ [])) (after octet is_one so some)
    (omega arith) (ltb-false most longer under)))
    (λ none. by_test (Where So) (eqb octet close)
    (λ is-close. record {
      spelling = [];
      says = rw append-nil so;
      small = small;
      stands = ap (λ (o : ℕ). o ∷ more) (eqb-true octet close is-close);
    })
    (λ other. tt))

-- a number that is taken is spelled, and is at most the most
abbrev pub NumberStands : ℕ → ℕ → List ℕ → ℕ → List ℕ → Type 0
NumberStands most close = Stands Spelling (λ n. n ≤ most) close

pub number_stands : (most close : ℕ) (text : List ℕ) → 9 ≤ most
    → Where (NumberStands most close text) (take_number most close text)
unfolding take_number
number_stands most close [] nine = tt
number_stands most close (first ∷ more) nine =
    let So = NumberStands most close (first ∷ more) in
    by_test (Where So) (eqb first 48)
    (λ is_zero. by_test (Where So) (next_is close more)
    (λ closed. record {
      spelling = 48 ∷ [];
      says = digit (omega arith);
      small = omega arith;
      stands =
          ap (λ (o : ℕ). o ∷ more) (eqb-true first 48 is_zero)
          ∙ ap (λ (l : List ℕ). 48 ∷ l) (next_stands close more closed);
    })
    (λ goes_on. tt))
    (λ other. by_test (Where So) (is_digit first)
    (λ is_one.
    let low = digit_low first is_one in
    let high = digit_high first is_one in
    let some : 0 < first - 48 = omega (arith, eqb-false first 48 other) in
    where_so (take_digits most close (first - 48) more)
    (λ n rest later. record {
      spelling = first ∷ later.spelling;
      says = later.says;
      small = later.small;
      stands = ap (λ (l : List ℕ). first ∷ l) later.stands;
    })
    (digits_spell most close (first - 48) more (first ∷ []) (alone first is_one) some (omega arith)))
    (λ none. tt))

pub number_most : (most close : ℕ) (text : List ℕ) {n : ℕ} {rest : List ℕ} → 9 ≤ most
    → take_number most close text ≡ taken n rest → n ≤ most
number_most most close text {n} {rest} nine e =
    let stands : NumberStands most close text n rest =
    subst (Where (NumberStands most close text)) e (number_stands most close text nine) in
    stands.small

-- a spelling of a number that is not 0 is read as digits go on behind it
spelled_on : (most close : ℕ) {s : List ℕ} {n : ℕ} (tail : List ℕ) → Spelling s n → 0 < n → n ≤ most
    → take_number most close (s ++ tail) ≡ take_digits most close n tail
unfolding take_number take_digits
spelled_on most close tail (digit {d = d} small) some under =
    let value : 48 + d - 48 ≡ d = omega arith in
    rw (ne_eqb (48 + d) 48 (λ z. omega arith), is_digit_lem d small, value)
spelled_on most close tail (behind {front = front} {n = n} {d = d} so more small) some under =
    let value : 48 + d - 48 ≡ d = omega arith in
    rw (
      append_assoc,
      spelled_on most close ((48 + d) ∷ tail) so more (omega arith),
      is_digit_lem d small,
      value,
      le-ltb most (n * 10 + d) under,
    )

-- a spelling of a number that is at most the most is taken where it stands closed
pub number_taken_lem : (most close : ℕ) → is_digit close ≡ false → {s : List ℕ} {n : ℕ} (rest : List ℕ)
    → Spelling s n → n ≤ most → take_number most close (s ++ (close ∷ rest)) ≡ taken n rest
unfolding take_number next_is take_digits
number_taken_lem most close none rest (digit {d = zero} small) under = rw (eq-eqb close close refl)
number_taken_lem most close none rest (digit {d = suc d} small) under =
    spelled_on most close (close ∷ rest) (digit small) (omega arith) under
    ∙ rw (none, eq-eqb close close refl)
number_taken_lem most close none rest (behind so some small) under =
    spelled_on most close (close ∷ rest) (behind so some small) (omega arith) under
    ∙ rw (none, eq-eqb close close refl)

-- and its first octet is no letter
pub no_letter : (letter : ℕ) → 58 ≤ letter → {s : List ℕ} {n : ℕ} (tail : List ℕ) → Spelling s n
    → next_is letter (s ++ tail) ≡ false
unfolding next_is
no_letter letter high tail (digit {d = d} small) = ne_eqb (48 + d) letter (λ z. omega arith)
no_letter letter high tail (behind {front = front} {n = n} {d = d} so some small) =
    rw append_assoc (no_letter letter high ((48 + d) ∷ tail) so)
