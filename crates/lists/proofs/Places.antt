-- The text from a place on: what comes next there, and how digits, a number and `none` are read.
use Prim.Native.Nat.{ℕ, zero, suc, ◌+◌, ◌-◌, ◌*◌, ◌≤◌, ◌<◌}
use native.Mathlib.Omega.{arith}
use native.Mathlib.Numerals.{add-one}
use mathlib.Core.Path.{◌≡◌, sym, ap, ◌∙◌}
use mathlib.Core.Bool.{Bool, true, false, false≢true, ◌&&◌}
use mathlib.Core.List.{List, [], ◌∷◌}
use lib.Dec.{eqb, ltb}
use lib.ListN.{length, get_or, drop, drop_of_length-le}
use lib.Seq.{drop-cons, drop-drop}
use borrow.Author.Tests.{ltb-true, ltb-false, lt-ltb, le-ltb, eq-eqb, ne_eqb}
use Rattle.framing.proofs.Tests.{by_test, and_both}
use Rattle.lists.specs.Line.{taken, not_taken, next_is, is_digit, take_digits, take_number, none_next}

-- what a function's answer says, of the answer that it is
pub answers : {A B : Type 0} (said : A → B) {r s : A} {t : B} → said r ≡ t → r ≡ s → t ≡ said s
answers said e q = sym e ∙ ap said q

-- at a place inside, and behind the end
pub drop_next : (text : List ℕ) (at : ℕ) → at < length text
    → drop at text ≡ get_or text at 0 ∷ drop (at + 1) text
drop_next text at inside = rw add-one (drop-cons text at 0 inside)

pub next_inside : (octet : ℕ) (text : List ℕ) (at : ℕ) → at < length text
    → next_is octet (drop at text) ≡ eqb (get_or text at 0) octet
unfolding next_is
next_inside octet text at inside = rw (drop_next text at inside)

pub next_behind : (octet : ℕ) (text : List ℕ) (at : ℕ) → length text ≤ at
    → next_is octet (drop at text) ≡ false
unfolding next_is
next_behind octet text at behind = rw (drop_of_length-le text behind)

-- where an octet comes next, the place is inside
pub inside_of : (octet : ℕ) (text : List ℕ) (at : ℕ) → next_is octet (drop at text) ≡ true
    → at < length text
unfolding next_is
inside_of octet [] at e = absurd (false≢true (sym (next_behind octet [] at (omega arith)) ∙ e))
inside_of octet (first ∷ more) zero e = omega arith
inside_of octet (first ∷ more) (suc at) e = let later = inside_of octet more at e in omega arith

-- digits at a place: at the text's end; an octet that is no digit, which closes them or does not; a
-- digit too many; one more
module _ (most close value : ℕ) (text : List ℕ) (at : ℕ) where
  pub digits_behind : length text ≤ at → take_digits most close value (drop at text) ≡ not_taken
  unfolding take_digits
  digits_behind behind = rw (drop_of_length-le text behind)

  module _ (inside : at < length text) where
    pub digits_closed : is_digit (get_or text at 0) ≡ false → get_or text at 0 ≡ close
        → take_digits most close value (drop at text) ≡ taken value (drop (at + 1) text)
    unfolding take_digits
    digits_closed no_digit e = rw (drop_next text at inside, no_digit, eq-eqb _ _ e)

    pub digits_not_closed : is_digit (get_or text at 0) ≡ false → (get_or text at 0 ≡ close → ⊥)
        → take_digits most close value (drop at text) ≡ not_taken
    unfolding take_digits
    digits_not_closed no_digit other = rw (drop_next text at inside, no_digit, ne_eqb _ _ other)

    pub digits_too_many : is_digit (get_or text at 0) ≡ true → most < value * 10 + (get_or text at 0 - 48)
        → take_digits most close value (drop at text) ≡ not_taken
    unfolding take_digits
    digits_too_many is_digit over = rw (drop_next text at inside, is_digit, lt-ltb _ _ over)

    pub digits_further : is_digit (get_or text at 0) ≡ true → value * 10 + (get_or text at 0 - 48) ≤ most
        → take_digits most close value (drop at text)
        ≡ take_digits most close (value * 10 + (get_or text at 0 - 48)) (drop (at + 1) text)
    unfolding take_digits
    digits_further is_digit under = rw (drop_next text at inside, is_digit, le-ltb _ _ under)

-- a digit's code
pub digit_low : (octet : ℕ) → is_digit octet ≡ true → 48 ≤ octet
unfolding is_digit
digit_low octet =
    by_test (λ (t : Bool). t ≡ true → 48 ≤ octet) (ltb octet 48) (λ low e. absurd (false≢true e))
    (λ high e. ltb-false octet 48 high)

pub digit_high : (octet : ℕ) → is_digit octet ≡ true → octet < 58
unfolding is_digit
digit_high octet =
    by_test (λ (t : Bool). t ≡ true → octet < 58) (ltb octet 48) (λ low e. absurd (false≢true e))
    (λ high e. ltb-true octet 58 e)

-- a number at a place: at the text's end; 0, closed or not; no digit; digits
module _ (most close : ℕ) (text : List ℕ) (at : ℕ) where
  pub number_behind : length text ≤ at → take_number most close (drop at text) ≡ not_taken
  unfolding take_number
  number_behind behind = rw (drop_of_length-le text behind)

  module _ (inside : at < length text) where
    pub number_zero : get_or text at 0 ≡ 48 → next_is close (drop (at + 1) text) ≡ true
        → take_number most close (drop at text) ≡ taken 0 (drop (at + 2) text)
    unfolding take_number
    number_zero zero-first closed =
        let two : at + 1 + 1 ≡ at + 2 = omega arith in
        rw (drop_next text at inside, eq-eqb _ _ zero-first, closed)
        (ap (taken 0) (drop-drop 1 (at + 1) text ∙ ap (λ (k : ℕ). drop k text) two))

    pub number_zero_goes_on : get_or text at 0 ≡ 48 → next_is close (drop (at + 1) text) ≡ false
        → take_number most close (drop at text) ≡ not_taken
    unfolding take_number
    number_zero_goes_on zero-first not-closed =
        rw (drop_next text at inside, eq-eqb _ _ zero-first, not-closed)

    pub number_no_digit : (get_or text at 0 ≡ 48 → ⊥) → is_digit (get_or text at 0) ≡ false
        → take_number most close (drop at text) ≡ not_taken
    unfolding take_number
    number_no_digit other no_digit =
        rw (drop_next text at inside, ne_eqb _ _ other, no_digit)

    pub number_digits : (get_or text at 0 ≡ 48 → ⊥) → is_digit (get_or text at 0) ≡ true
        → take_number most close (drop at text)
        ≡ take_digits most close (get_or text at 0 - 48) (drop (at + 1) text)
    unfolding take_number
    number_digits other is_digit = rw (drop_next text at inside, ne_eqb _ _ other, is_digit)

-- `none` at a place, octet by octet, and the room that it takes
module _ (close : ℕ) (text : List ℕ) (at : ℕ) where
  pub none_is : none_next close (drop at text)
      ≡ (next_is 110 (drop at text)
      && (next_is 111 (drop (at + 1) text)
      && (next_is 110 (drop (at + 2) text)
      && (next_is 101 (drop (at + 3) text) && next_is close (drop (at + 4) text)))))
  unfolding none_next
  none_is = simp drop-drop

  pub none_not_1 : next_is 110 (drop at text) ≡ false → none_next close (drop at text) ≡ false
  none_not_1 p = rw (none_is, p)

  module _ (first : next_is 110 (drop at text) ≡ true) where
    pub none_not_2 : next_is 111 (drop (at + 1) text) ≡ false → none_next close (drop at text) ≡ false
    none_not_2 p = rw (none_is, first, p)

    module _ (second : next_is 111 (drop (at + 1) text) ≡ true) where
      pub none_not_3 : next_is 110 (drop (at + 2) text) ≡ false
          → none_next close (drop at text) ≡ false
      none_not_3 p = rw (none_is, first, second, p)

      module _ (third : next_is 110 (drop (at + 2) text) ≡ true) where
        pub none_not_4 : next_is 101 (drop (at + 3) text) ≡ false
            → none_next close (drop at text) ≡ false
        none_not_4 p = rw (none_is, first, second, third, p)

        pub none_closed : next_is 101 (drop (at + 3) text) ≡ true
            → none_next close (drop at text) ≡ next_is close (drop (at + 4) text)
        none_closed p = rw (none_is, first, second, third, p)

  pub none_room : none_next close (drop at text) ≡ true → at + 5 ≤ length text
  none_room e =
      let first = and_both (next_is 110 (drop at text)) _ (sym none_is ∙ e) in
      let second = and_both (next_is 111 (drop (at + 1) text)) _ first.1 in
      let third = and_both (next_is 110 (drop (at + 2) text)) _ second.1 in
      let fourth = and_both (next_is 101 (drop (at + 3) text)) _ third.1 in
      let last = inside_of close text (at + 4) fourth.1 in
      omega arith
