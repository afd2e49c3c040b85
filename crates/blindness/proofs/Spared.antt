-- What the test tells of terms: which octets of which sections are no values.
use Rattle.std.specs.Prelude.{Option}
use Prim.Native.Nat.{ℕ, zero, suc, ◌+◌, ◌≤◌}
use native.Mathlib.Omega.{arith}
use mathlib.Core.Path.{◌≡◌, refl}
use mathlib.Core.Bool.{Bool, true, false, ◌&&◌, ◌||◌, false≢true}
use mathlib.Core.List.{List, [], ◌∷◌}
use lib.Dec.{leb, ltb, eqb}
use borrow.Author.Tests.{ltb-true, leb-true, eqb-true, lt-leb, le-leb}
use Rattle.sections.specs.Kinds.{values_of, values_in, kind_of, kinds}
use Rattle.framing.proofs.Tests.{by_test, and_both, and_of}
use Rattle.publish.specs.Values.{Stretch, nowhere, onward, within, Terms, stretch_of, licensed, in_stretch}
use Rattle.blindness.specs.Looks.{Look, framing_looks, decoder_looks, apart, spare, is_blind, changed, four_stretches, six_stretches}
use Rattle.blindness.specs.Blindness.{LicensedAreFour, TermsPass, OneMoreFails}
use Rattle.sections.specs.declared.kinds.Kind.{Kind}

-- of all of a list
abbrev pub Each : {A : Type 0} → (A → Type 0) → List A → Type 0
Each P [] = Unit
Each P (x ∷ more) = P x × Each P more

-- the first fails, or the second: both do not hold
pub and_left : (a b : Bool) → a ≡ false → (a && b) ≡ false
and_left a b e = rw e

pub and_right : (a b : Bool) → b ≡ false → (a && b) ≡ false
and_right true b e = e
and_right false b e = refl

-- no octet of the stretch t is one of s
apart_quiet : (s t : Stretch) → apart s t ≡ true → (i : ℕ) → in_stretch t i ≡ true → in_stretch s i ≡ false
unfolding apart in_stretch
apart_quiet nowhere t e i h = refl
apart_quiet (onward a) nowhere e i h = absurd (false≢true h)
apart_quiet (onward a) (onward c) e i h = absurd (false≢true e)
apart_quiet (onward a) (within c d) e i h =
    let p = and_both (leb c (i + 1)) (leb (i + 1) d) h in
    let q = leb-true (i + 1) d p.1 in
    let r = ltb-true d a e in
    lt-leb a (i + 1) (omega arith)
apart_quiet (within a b) nowhere e i h = absurd (false≢true h)
apart_quiet (within a b) (onward c) e i h =
    let q = leb-true c (i + 1) h in
    let r = ltb-true b c e in
    and_right (leb a (i + 1)) (leb (i + 1) b) (lt-leb (i + 1) b (omega arith))
apart_quiet (within a b) (within c d) e i h = go (ltb b c) refl e
  where
    p : (leb c (i + 1) ≡ true) × (leb (i + 1) d ≡ true)
    p = and_both (leb c (i + 1)) (leb (i + 1) d) h

    go : (t : Bool) → ltb b c ≡ t → (t || ltb d a) ≡ true → (leb a (i + 1) && leb (i + 1) b) ≡ false
    go true before e' =
        let q = leb-true c (i + 1) p.0 in
        let r = ltb-true b c before in
        and_right (leb a (i + 1)) (leb (i + 1) b) (lt-leb (i + 1) b (omega arith))
    go false other e' =
        let q = leb-true (i + 1) d p.1 in
        let r = ltb-true d a e' in
        and_left (leb a (i + 1)) (leb (i + 1) b) (lt-leb a (i + 1) (omega arith))

-- the octets of a look are no values
abbrev Quiet : Terms → Look → Type 0
Quiet terms l = (i : ℕ) → in_stretch l.octets i ≡ true → in_stretch (terms l.number) i ≡ false

spare_quiet : (terms : Terms) (looks : List Look) → spare terms looks ≡ true → Each (Quiet terms) looks
unfolding spare
spare_quiet terms [] e = tt
spare_quiet terms (l ∷ more) e =
    let p = and_both (apart (terms l.number) l.octets) (spare terms more) e in
    (apart_quiet (terms l.number) l.octets p.0, spare_quiet terms more p.1)

-- octets of a section, from one to another and counted from 1, that are no values
abbrev pub Still : Terms → ℕ → ℕ → ℕ → Type 0
Still terms number first last = (i : ℕ) → first ≤ i + 1 → i + 1 ≤ last → in_stretch (terms number) i ≡ false

still : (terms : Terms) (number first last : ℕ)
    → ((i : ℕ) → in_stretch (within first last) i ≡ true → in_stretch (terms number) i ≡ false) → Still terms number first last
unfolding in_stretch
still terms number first last h i p q = h i (and_of (le-leb first (i + 1) p) (le-leb (i + 1) last q))

-- all that the test tells
pub record Spared (terms : Terms) : Type 0 where
  pub word : Still terms 0 1 4
  pub total : Still terms 0 8 16
  pub header : (number : ℕ) → 1 ≤ number → number ≤ 7 → Still terms number 1 5
  pub mark : Still terms 8 1 4
  pub discipline : Still terms 0 7 7
  pub identification : Still terms 1 6 21
  pub grid_points : Still terms 3 7 10
  pub grid_template : Still terms 3 13 14
  pub product : (i : ℕ) → 6 ≤ i + 1 → in_stretch (terms 4) i ≡ false
  pub representation : Still terms 5 6 11
  pub bit_map_lem : Still terms 6 6 6

pub spared : (terms : Terms) → is_blind terms ≡ true → Spared terms
unfolding is_blind framing_looks decoder_looks in_stretch
spared terms e = go (spare_quiet terms framing_looks p.0) (spare_quiet terms decoder_looks p.1)
  where
    p : (spare terms framing_looks ≡ true) × (spare terms decoder_looks ≡ true)
    p = and_both (spare terms framing_looks) (spare terms decoder_looks) e

    headers : Still terms 1 1 5 → Still terms 2 1 5 → Still terms 3 1 5 → Still terms 4 1 5 → Still terms 5 1 5 → Still terms 6 1 5
        → Still terms 7 1 5 → (number : ℕ) → 1 ≤ number → number ≤ 7 → Still terms number 1 5
    headers a b c d x y z zero low high = absurd (omega arith)
    headers a b c d x y z (suc zero) low high = a
    headers a b c d x y z (suc (suc zero)) low high = b
    headers a b c d x y z (suc (suc (suc zero))) low high = c
    headers a b c d x y z (suc (suc (suc (suc zero)))) low high = d
    headers a b c d x y z (suc (suc (suc (suc (suc zero))))) low high = x
    headers a b c d x y z (suc (suc (suc (suc (suc (suc zero)))))) low high = y
    headers a b c d x y z (suc (suc (suc (suc (suc (suc (suc zero))))))) low high = z
    headers a b c d x y z (suc (suc (suc (suc (suc (suc (suc (suc n)))))))) low high = absurd (omega arith)

    go : Each (Quiet terms) framing_looks → Each (Quiet terms) decoder_looks → Spared terms
    go (q0, (q0t, (q1, (q2, (q3, (q4, (q5, (q6, (q7, (q8, u)))))))))) (d0, (d0t, (d1, (d3, (d3t, (d4, (d5, (d6, v)))))))) =
        record {
          word = still terms 0 1 4 q0;
          total = still terms 0 8 16 q0t;
          header =
              headers (still terms 1 1 5 q1) (still terms 2 1 5 q2) (still terms 3 1 5 q3) (still terms 4 1 5 q4) (still terms 5 1 5 q5)
              (still terms 6 1 5 q6) (still terms 7 1 5 q7);
          mark = still terms 8 1 4 q8;
          discipline = still terms 0 7 7 d0;
          identification = still terms 1 6 21 d1;
          grid_points = still terms 3 7 10 d3;
          grid_template = still terms 3 13 14 d3t;
          product = λ i h. d4 i (le-leb 6 (i + 1) h);
          representation = still terms 5 6 11 d5;
          bit_map_lem = still terms 6 6 6 d6;
        }

-- the test, computed
pub terms_pass : TermsPass
unfolding is_blind spare apart framing_looks decoder_looks four_stretches six_stretches changed licensed values_of kind_of kinds
terms_pass = record { licensed_pass = refl; four_pass = refl; six_pass = refl }

pub one_more_fails : OneMoreFails
unfolding is_blind spare apart framing_looks decoder_looks changed licensed values_of kind_of kinds
one_more_fails = record { two = refl; five = refl; six = refl; seven = refl }

-- the kinds' stretches are the four
pub licensed_are_four : LicensedAreFour
unfolding licensed values_of kind_of kinds four_stretches changed
licensed_are_four number =
    by_test P (eqb number 0) (λ e. is 0 e refl) λ e0.
    by_test P (eqb number 1) (λ e. is 1 e refl) λ e1.
    by_test P (eqb number 2) (λ e. is 2 e refl) λ e2.
    by_test P (eqb number 3) (λ e. is 3 e refl) λ e3.
    by_test P (eqb number 4) (λ e. is 4 e refl) λ e4.
    by_test P (eqb number 5) (λ e. is 5 e refl) λ e5.
    by_test P (eqb number 6) (λ e. is 6 e refl) λ e6.
    by_test P (eqb number 7) (λ e. is 7 e refl) λ e7.
    by_test P (eqb number 8) (λ e. is 8 e refl) λ e8.
    other e2 e5 e6 e7
  where
    P : Option Kind → Type 0
    P kind = stretch_of (values_in kind) ≡ four_stretches number

    is : {stretch : Stretch} (n : ℕ) → eqb number n ≡ true → stretch ≡ four_stretches n → stretch ≡ four_stretches number
    is n e h = rw (eqb-true number n e) h

    other : eqb number 2 ≡ false → eqb number 5 ≡ false → eqb number 6 ≡ false → eqb number 7 ≡ false → nowhere ≡ four_stretches number
    other a b c d = rw (a, b, c, d)
