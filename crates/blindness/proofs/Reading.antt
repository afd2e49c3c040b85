-- Two files of one length: what is read alike of both, where the octets that a read looks at are equal.
use Rattle.std.specs.Prelude.{Option, Some, None}
use Prim.Native.Nat.{ℕ, zero, suc, ◌+◌, ◌≤◌, ◌<◌}
use native.Mathlib.Omega.{arith}
use native.Mathlib.Nat.{le_refl}
use mathlib.Core.Path.{◌≡◌, refl, sym, subst, ◌∙◌}
use mathlib.Core.Bool.{Bool, true, false}
use mathlib.Core.List.{List}
use lib.Dec.{leb, ltb, eqb}
use lib.ListN.{length, get_or, get_or-eq_default}
use borrow.Author.Tests.{ltb-true, ltb-false, eqb-true, eqb-false, le-leb, ne_eqb}
use Rattle.octets.specs.Words.{pick}
use Rattle.octets.specs.BigEndian.{be_at}
use Rattle.framing.specs.Search.{says, starts_at, IsNextStart, next_start}
use Rattle.framing.specs.Framing.{indicator_at, end_at, header_at, message_at, read_at}
use Rattle.framing.specs.Read.{Over}
use Rattle.framing.proofs.NextStart.{next_start_first, next_start_is}
use Rattle.blindness.proofs.Spared.{and_right}

-- two choices by one test
pub same_pick : {A : Type 0} (t : Bool) {a b c d : A} → (t ≡ true → a ≡ c) → (t ≡ false → b ≡ d) → pick t a b ≡ pick t c d
same_pick true then else = then refl
same_pick false then else = else refl

-- an octet past the end is 0 in both
pub every_octet : (f g : List ℕ) → length f ≡ length g → (k : ℕ) → (k < length f → get_or f k 0 ≡ get_or g k 0) → get_or f k 0 ≡ get_or g k 0
every_octet f g same k h = go (ltb k (length f)) refl
  where
    go : (t : Bool) → ltb k (length f) ≡ t → get_or f k 0 ≡ get_or g k 0
    go true e = h (ltb-true k (length f) e)
    go false e =
        let past : length f ≤ k = ltb-false k (length f) e in
        get_or-eq_default f 0 past ∙ sym (get_or-eq_default g 0 (omega arith))

-- the places that a search looks at
abbrev pub UpTo : Option ℕ → ℕ → Type 0
UpTo (Some p) k = k ≤ p
UpTo None k = Unit

-- a 0 starts no message
pub zero_starts : (f : List ℕ) (p : ℕ) → get_or f p 0 ≡ 0 → starts_at f p ≡ false
unfolding starts_at says
zero_starts f p h = rw h (and_right (leb (p + 16) (length f)) false refl)

-- inside a message there is nothing past the end
pub read_over : (f : List ℕ) (at rest : ℕ) → 0 < rest → length f ≤ at → read_at f at rest ≡ Over
unfolding read_at
read_over f at rest within past = rw (ne_eqb rest 0 (λ z. omega arith), le-leb (length f) at past)

module _ (f g : List ℕ) where
  abbrev pub Eq : ℕ → Type 0
  Eq k = get_or f k 0 ≡ get_or g k 0

  pub be_agree : (width at : ℕ) → ((k : ℕ) → at ≤ k → k < at + width → Eq k) → be_at f at width ≡ be_at g at width
  unfolding be_at
  be_agree zero at h = refl
  be_agree (suc w) at h =
      let a = h (at + w) (omega arith) (omega arith) in
      let b = be_agree w at (λ k p q. h k p (omega arith)) in
      cc

  says_agree : (at a b c d : ℕ) → ((k : ℕ) → at ≤ k → k < at + 4 → Eq k) → says f at a b c d ≡ says g at a b c d
  unfolding says
  says_agree at a b c d h =
      let o : (i : ℕ) → i < 4 → Eq (at + i) = λ i small. h (at + i) (omega arith) (omega arith) in
      rw (h at (omega arith) (omega arith), o 1 (omega arith), o 2 (omega arith), o 3 (omega arith))

  -- where the search ends in f it ends in g, if messages start alike up to there
  next_alike : (at : ℕ) (found : Option ℕ) → IsNextStart f at found
      → ((k : ℕ) → at ≤ k → UpTo found k → starts_at f k ≡ starts_at g k)
      → IsNextStart g at found
  next_alike at (Some p) (from, there, none) h =
      (from, sym (h p from (le_refl p)) ∙ there, λ k below from' there'. none k below from' (h k from' (omega arith) ∙ there'))
  next_alike at None none h = λ k from there. none k from (h k from tt ∙ there)

  pub next_agree : (at : ℕ) (found : Option ℕ) → next_start f at ≡ found
      → ((k : ℕ) → at ≤ k → UpTo found k → starts_at f k ≡ starts_at g k)
      → next_start g at ≡ found
  next_agree at found e h =
      sym (next_start_is g at found (next_alike at found (subst (IsNextStart f at) e (next_start_first f at)) h))

  -- a message that starts at one place in both
  pub message_agree : (at : ℕ) (found : Option ℕ) → next_start f at ≡ found → next_start g at ≡ found
      → message_at f found ≡ message_at g found
      → message_at f (next_start f at) ≡ message_at g (next_start g at)
  message_agree at found e e' h = rw (e, e') h

  module _ (same : length f ≡ length g) where
    pub starts_agree : (p : ℕ) → ((k : ℕ) → p ≤ k → k < p + 4 → Eq k) → starts_at f p ≡ starts_at g p
    unfolding starts_at
    starts_agree p h = rw (same, says_agree p 71 82 73 66 h)

    pub indicator_agree : (p : ℕ) → ((k : ℕ) → p + 7 ≤ k → k < p + 16 → Eq k) → indicator_at f p ≡ indicator_at g p
    unfolding indicator_at
    indicator_agree p h =
        rw (h (p + 7) (omega arith) (omega arith), be_agree 8 (p + 8) (λ k a b. h k (omega arith) (omega arith)))

    pub end_agree : (at : ℕ) → ((k : ℕ) → at ≤ k → k < at + 4 → Eq k) → end_at f at ≡ end_at g at
    unfolding end_at
    end_agree at h = rw (same, says_agree at 55 55 55 55 h)

    pub header_agree : (at rest : ℕ) → ((k : ℕ) → at ≤ k → k < at + 5 → Eq k) → header_at f at rest ≡ header_at g at rest
    unfolding header_at
    header_agree at rest h = rw (same, h (at + 4) (omega arith) (omega arith), be_agree 4 at (λ k a b. h k a (omega arith)))

    -- one read, by what stands there
    pub read_agree : (at rest : ℕ) → (rest ≡ 0 → message_at f (next_start f at) ≡ message_at g (next_start g at))
        → (rest ≡ 4 → end_at f at ≡ end_at g at) → ((rest ≡ 0 → ⊥) → (rest ≡ 4 → ⊥) → header_at f at rest ≡ header_at g at rest)
        → read_at f at rest ≡ read_at g at rest
    unfolding read_at
    read_agree at rest a b c =
        rw (← same)
        (same_pick (eqb rest 0) (λ e. a (eqb-true rest 0 e)) λ e.
        same_pick (leb (length f) at) (λ _. refl) λ _.
        same_pick (eqb rest 4) (λ e'. b (eqb-true rest 4 e')) λ e'.
        c (eqb-false rest 0 e) (eqb-false rest 4 e'))

    -- all octets from there on are equal
    pub read_equal : (at rest : ℕ) → ((k : ℕ) → at ≤ k → Eq k) → read_at f at rest ≡ read_at g at rest
    unfolding message_at
    read_equal at rest h =
        read_agree at rest
        (λ _. message_agree at (next_start f at) refl
        (next_agree at (next_start f at) refl (λ k a b. starts_agree k (λ j c d. h j (omega arith))))
        (message (next_start f at) (next_start_first f at)))
        (λ _. end_agree at (λ k a b. h k a))
        (λ _ _. header_agree at rest (λ k a b. h k a))
      where
        message : (found : Option ℕ) → IsNextStart f at found
            → message_at f found ≡ message_at g found
        message (Some p) (from, there, none) = indicator_agree p (λ k a b. h k (omega arith))
        message None none = refl
