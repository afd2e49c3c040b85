-- Sections told at places, the last of a number before a place, and how many there are.
use Rattle.std.specs.Prelude.{Option, Some, None}
use Prim.Native.Nat.{ℕ, suc, ◌+◌, ◌≤◌, ◌<◌}
use native.Mathlib.Omega.{arith}
use native.Mathlib.Numerals.{add-one}
use mathlib.Core.Path.{◌≡◌, refl, sym, ap, ◌∙◌}
use mathlib.Core.List.{List, [], ◌∷◌, ◌++◌}
use lib.Dec.{ltb, eqb}
use lib.ListN.{length, get_or, take, drop, length-take, length-drop, drop_of_length-le}
use lib.Seq.{take-suc, drop-cons, drop-append-le, length-take-le}
use borrow.Author.Tests.{ltb-true, ltb-false}
use Rattle.octets.specs.Words.{pick, Not}
use Rattle.framing.specs.declared.read.Section.{Section}
use Rattle.framing.proofs.Tests.{by_test}
use Rattle.index.specs.Lines.{unlisted}
use Rattle.index.specs.Pins.{told_at, ToldAt, LastBefore, LocalBefore, count_of}
use Rattle.order.specs.declared.Place.{Place}

count_append : (number : ℕ) (a b : List Section) → count_of number (a ++ b) ≡ count_of number a + count_of number b
count_append number [] b = omega arith
count_append number (s ∷ a) b = let ih = count_append number a b in omega arith

module _ (told : List Section) where
  -- this section is told at a place
  abbrev pub Here : ℕ → Section → Type 0
  Here c s = (c < length told) × (told_at told c ≡ s)

  -- and so one of its number
  pub by_number : {c : ℕ} {s : Section} → Here c s → ToldAt told s.number c
  by_number here = (here.0, ap (λ (x : Section). x.number) here.1)

  -- what is told from a place on says what stands there
  pub next_told : (c : ℕ) (s : Section) (more : List Section) → drop c told ≡ s ∷ more
      → Here c s × (drop (c + 1) told ≡ more)
  next_told c s more e =
      let here : c < length told = omega (arith, length-drop c told, ap length e) in
      let both = sym (drop-cons told c unlisted.section here) ∙ e in
      let first : get_or told c unlisted.section ≡ s = cc in
      let rest : drop (suc c) told ≡ more = cc in
      ((here, first), rw add-one rest)

  pub none_told : (number c : ℕ) → drop c told ≡ [] → Not (ToldAt told number c)
  none_told number c e (inside, _) = omega (arith, length-drop c told, ap length e)

  -- one place, one number
  pub apart : {n m p q : ℕ} → ToldAt told n p → ToldAt told m q → Not (n ≡ m) → Not (p ≡ q)
  apart {n} {m} {p} {q} a b other e =
      other (sym a.1 ∙ ap (λ (k : ℕ). (get_or told k unlisted.section).number) e ∙ b.1)

  -- what is so nowhere before a place, and not there, is so nowhere before the next
  up_to : (v : ℕ) (So : ℕ → Type 0) → ((k : ℕ) → k < v → Not (So k)) → Not (So v) → (k : ℕ) → k < v + 1 → Not (So k)
  up_to v So before here k below so =
      by_test (λ (n : ℕ). ⊥) (ltb k v) {a = k} {b = k} (λ e. before k (ltb-true k v e) so)
      (λ e. let same : k ≡ v = omega (arith, ltb-false k v e) in here (rw same at so))

  -- the last of a number stays the last where another number stands at the next place ..
  pub last_stays : {n m from c p : ℕ} → ToldAt told m c → Not (n ≡ m) → LastBefore told n from c p → LastBefore told n from (c + 1) p
  last_stays {n} {m} {from} {c} {p} here other l =
      record {
        low = l.low;
        high = let h = l.high in omega arith;
        there = l.there;
        last =
            λ k above below there. up_to c (λ (k : ℕ). (p < k) × ToldAt told n k) (λ k below so. l.last k so.0 below so.1)
            (λ so. apart so.1 here other refl) k below (above, there);
      }

  -- .. and was the last before it
  pub last_was : {n m from v p : ℕ} → ToldAt told m v → Not (n ≡ m) → LastBefore told n from (v + 1) p → LastBefore told n from v p
  last_was {n} {m} {from} {v} {p} here other l =
      record {
        low = l.low;
        high = let h = l.high in let differs = apart l.there here other in omega arith;
        there = l.there;
        last = λ k above below. l.last k above (omega arith);
      }

  -- a section is the last of its number
  pub last_is : {n from c : ℕ} → from ≤ c → ToldAt told n c → LastBefore told n from (c + 1) c
  last_is low here = record { low = low; high = omega arith; there = here; last = λ k above below. absurd (omega arith) }

  -- the same of a section 2
  pub local_stays : {m : ℕ} (from c : ℕ) (local : Option Place) → ToldAt told m c → Not (2 ≡ m) → LocalBefore told from c local
      → LocalBefore told from (c + 1) local
  local_stays from c (Some p) here other l = last_stays here other l
  local_stays from c None here other none = λ k above below there.
      up_to c (λ (k : ℕ). (from ≤ k) × ToldAt told 2 k) (λ k below so. none k so.0 below so.1)
      (λ so. apart so.1 here other refl) k below (above, there)

  pub local_was : {m : ℕ} (from v : ℕ) (local : Option Place) → ToldAt told m v → Not (2 ≡ m) → LocalBefore told from (v + 1) local
      → LocalBefore told from v local
  local_was from v (Some p) here other l = last_was here other l
  local_was from v None here other none = λ k above below. none k above (omega arith)

  -- a place more counts the section there
  pub count_step : (n m from c : ℕ) → from ≤ c → ToldAt told m c
      → count_of n (drop from (take (c + 1) told)) ≡ count_of n (drop from (take c told)) + pick (eqb m n) 1 0
  count_step n m from c low (inside, number) =
      let long = length-take-le c told (omega arith) in
      let x = get_or told c unlisted.section in
      let split : drop from (take (c + 1) told) ≡ drop from (take c told) ++ (x ∷ []) =
      rw (add-one, take-suc told c unlisted.section inside, drop-append-le from (take c told) (x ∷ []) (omega arith)) in
      let one : count_of n (x ∷ []) ≡ pick (eqb m n) 1 0 = rw number (omega arith) in
      ap (count_of n) split ∙ count_append n (drop from (take c told)) (x ∷ []) ∙ ap (λ (k : ℕ). count_of n (drop from (take c told)) + k) one

  -- none from a place to itself
  pub count_none : (n c : ℕ) → count_of n (drop c (take c told)) ≡ 0
  count_none n c =
      ap (count_of n) (drop_of_length-le (take c told) {i = c} (omega (arith, length-take c told)))
