-- Two files of one length: their listings are equal where no octet that is read differs, and what both have of each section.
use Rattle.std.specs.Prelude.{Some, None}
use Prim.Native.Nat.{ℕ, zero, suc, ◌+◌, ◌-◌, ◌≤◌, ◌<◌}
use native.Mathlib.Omega.{arith}
use mathlib.Core.Path.{◌≡◌, refl, sym, ap, subst, ◌∙◌}
use mathlib.Core.Bool.{Bool, true, false}
use mathlib.Core.List.{List, ◌∷◌}
use lib.Dec.{ltb}
use lib.ListN.{length, get_or}
use borrow.Author.Tests.{ltb-true, ltb-false}
use Rattle.framing.specs.Search.{starts_at, IsNextStart, next_start}
use Rattle.framing.specs.Framing.{message_at, read_at}
use Rattle.framing.specs.Listing.{Listing, over, before, listed_by, listing_from}
use Rattle.framing.specs.declared.read.Section.{Section as Row}
use Rattle.framing.specs.declared.read.Cursor.{Cursor}
use Rattle.framing.specs.Read.{Read}
use Rattle.framing.specs.Read.{Section, Over, Refused}
use Rattle.framing.proofs.NextStart.{next_start_first}
use Rattle.framing.proofs.OneRead.{Reads, opens, closes, heads, over_between, over_within, reads, goes}
use Rattle.publish.specs.Values.{Terms, in_stretch, in_span, carries, is_value, in_message}
use Rattle.blindness.proofs.Spared.{Each, Still, Spared}
use Rattle.blindness.proofs.Reading.{
  Eq,
  zero_starts,
  read_over,
  next_agree,
  message_agree,
  starts_agree,
  indicator_agree,
  end_agree,
  header_agree,
  read_agree,
  read_equal,
}
use Rattle.blindness.proofs.Listed.{
  or_neither,
  carries_below,
  carries_past,
  carries_none,
  values_below,
  span_past,
  of_messages,
  messages_later,
  messages_here,
  messages_gap,
}

not_so : (t : Bool) → (t ≡ true → ⊥) → t ≡ false
not_so true h = absurd (h refl)
not_so false h = refl

-- no message starts between a place and the next section from there on
no_start : {f : List ℕ} {at rest : ℕ} {s : Row} {next : Cursor} → Reads f at rest (Section s next) → (k : ℕ) → at ≤ k → k < s.offset.0
    → starts_at f k ≡ true → ⊥
no_start {f} {at} {rest} {s} (opens G o) k a b there =
    let first : IsNextStart f at (Some s.offset.0) =
    subst (IsNextStart f at) o.found (next_start_first f at) in
    first.2 k b a there
no_start (closes G o) k a b there = omega arith
no_start (heads G o) k a b there = omega arith

-- one read, and what is listed after it
abbrev then : ℕ → List ℕ → Read → Listing
then n f read = listed_by read (λ a r. listing_from n f a r)

module _ (terms : Terms) (spared : Spared terms) (f g : List ℕ) (same : length f ≡ length g) where
  -- an octet that is read of a section is no values octet of it or of a later one
  module _ (n : ℕ) {at rest : ℕ} {s : Row} {next : Cursor} (told : Reads f at rest (Section s next)) where
    abbrev later : List Row
    later = (listing_from n f next.at.0 next.rest).sections

    no_value : (k : ℕ) → k < next.at.0 → in_stretch (terms s.number) (k - s.offset.0) ≡ false → is_value terms (s ∷ later) k ≡ false
    unfolding is_value
    no_value k a b = or_neither (carries_none terms s k b) (values_below f terms n next.at.0 next.rest k a)

    -- whatever the section, its first four octets are read
    first_four : Still terms s.number 1 4
    first_four = go told
      where
        go : Reads f at rest (Section s next) → Still terms s.number 1 4
        go (opens G o) = rw o.number spared.word
        go (closes G o) = rw o.number spared.mark
        go (heads G o) = λ i a b. spared.header s.number o.from_1 o.to_7 i a (omega arith)

    no_value_before : (k : ℕ) → k < s.offset.0 + 4 → is_value terms (s ∷ later) k ≡ false
    unfolding is_value
    no_value_before k a =
        let G = goes told in
        or_neither (go (ltb k s.offset.0) refl) (values_below f terms n next.at.0 next.rest k (omega arith))
      where
        go : (t : Bool) → ltb k s.offset.0 ≡ t → carries terms s k ≡ false
        go true e = carries_below terms s k (ltb-true k s.offset.0 e)
        go false e =
            let b = ltb-false k s.offset.0 e in
            carries_none terms s k (first_four (k - s.offset.0) (omega arith) (omega arith))

    no_value_later : (k : ℕ) → next.at.0 ≤ k → is_value terms later k ≡ false → is_value terms (s ∷ later) k ≡ false
    unfolding is_value
    no_value_later k a b = let G = goes told in or_neither (carries_past terms s k (omega arith)) b

  -- the sections that f has are there in g: where its octets that are read stand in g too, and no message starts before it
  module _ (n : ℕ) {at rest : ℕ} {s : Row} {next : Cursor} where
    read_same : (told : Reads f at rest (Section s next))
        → ((k : ℕ) → s.offset.0 ≤ k → k < next.at.0 → is_value terms (s ∷ later n told) k ≡ false → Eq f g k)
        → ((k : ℕ) → at ≤ k → k < s.offset.0 → starts_at f k ≡ starts_at g k)
        → read_at f at rest ≡ read_at g at rest
    unfolding message_at
    read_same (opens G o) h z = read_agree f g same at rest message (λ e. absurd (omega arith)) (λ e. absurd (e o.between))
      where
        told : Reads f at rest (Section s next)
        told = opens G o

        p : ℕ
        p = s.offset.0

        word : (k : ℕ) → p ≤ k → k < p + 4 → Eq f g k
        word k a b =
            h k a (omega arith) (no_value n told k (omega arith) (rw o.number (spared.word (k - p) (omega arith) (omega arith))))

        total : (k : ℕ) → p + 7 ≤ k → k < p + 16 → Eq f g k
        total k a b =
            h k (omega arith) (omega arith)
            (no_value n told k (omega arith) (rw o.number (spared.total (k - p) (omega arith) (omega arith))))

        starts : (k : ℕ) → at ≤ k → k ≤ p → starts_at f k ≡ starts_at g k
        starts k a b = go (ltb k p) refl
          where
            go : (t : Bool) → ltb k p ≡ t → starts_at f k ≡ starts_at g k
            go true e = z k a (ltb-true k p e)
            go false e = let q : k ≡ p = omega (arith, ltb-false k p e) in rw q (starts_agree f g same p word)

        message : rest ≡ 0 → message_at f (next_start f at) ≡ message_at g (next_start g at)
        message _ =
            message_agree f g at (Some p) o.found (next_agree f g at (Some p) o.found starts)
            (indicator_agree f g same p total)
    read_same (closes G o) h z =
        read_agree f g same at rest (λ e. absurd (omega arith))
        (λ _. end_agree f g same at (λ k a b.
        h k (omega arith) (omega arith)
        (no_value n (closes G o) k (omega arith) (rw o.number (spared.mark (k - s.offset.0) (omega arith) (omega arith))))))
        (λ _ e. absurd (e o.last))
    read_same (heads G o) h z =
        read_agree f g same at rest (λ e. absurd (omega arith)) (λ e. absurd (o.not_last e))
        (λ _ _. header_agree f g same at rest (λ k a b.
        h k (omega arith) (omega arith)
        (no_value n (heads G o) k (omega arith)
        (spared.header s.number o.from_1 o.to_7 (k - s.offset.0) (omega arith) (omega arith)))))

  -- files that differ in values octets only are listed alike
  pub blind_from : (n at rest : ℕ) → ((k : ℕ) → at ≤ k → is_value terms (listing_from n f at rest).sections k ≡ false → Eq f g k)
      → listing_from n f at rest ≡ listing_from n g at rest
  unfolding listing_from is_value
  blind_from zero at rest h = refl
  blind_from (suc n) at rest h = go (read_at f at rest) refl (reads f at rest) h (blind_from n)
    where
      go : (read : Read) → read_at f at rest ≡ read → Reads f at rest read
          → ((k : ℕ) → at ≤ k → is_value terms (then n f read).sections k ≡ false → Eq f g k)
          → ((a r : ℕ) → ((k : ℕ) → a ≤ k → is_value terms (listing_from n f a r).sections k ≡ false → Eq f g k)
          → listing_from n f a r ≡ listing_from n g a r)
          → then n f read ≡ then n g (read_at g at rest)
      go (Section s next) e told h' ih =
          let G = goes told in
          let r =
          read_same n told (λ k a b. h' k (omega arith))
          (λ k a b. starts_agree f g same k (λ j c d. h' j (omega arith) (no_value_before n told j (omega arith)))) in
          rw (← r, e)
          (ap (before s) (ih next.at.0 next.rest (λ k a b. h' k (omega arith) (no_value_later n told k a b))))
      go Over e told h' ih = rw (← read_equal f g same at rest (λ k a. h' k a refl), e)
      go (Refused fault offset) e told h' ih = rw (← read_equal f g same at rest (λ k a. h' k a refl), e)

  -- a file with the octets of f's messages that are no values, and zeros between its messages, is listed as f is, if f goes to its end
  pub copy_from : (n at rest : ℕ) → (listing_from n f at rest).ending ≡ over
      → ((k : ℕ) → at ≤ k → of_messages f at rest (listing_from n f at rest).sections k ≡ true
      → is_value terms (listing_from n f at rest).sections k ≡ false → Eq f g k)
      → ((k : ℕ) → at ≤ k → of_messages f at rest (listing_from n f at rest).sections k ≡ false → get_or g k 0 ≡ 0)
      → listing_from n f at rest ≡ listing_from n g at rest
  unfolding listing_from is_value in_message of_messages message_at
  copy_from zero at rest done keep blank = refl
  copy_from (suc n) at rest done keep blank = go (read_at f at rest) refl (reads f at rest) done keep blank (copy_from n)
    where
      start_none : (k : ℕ) → at ≤ k → (starts_at f k ≡ true → ⊥) → get_or g k 0 ≡ 0 → starts_at f k ≡ starts_at g k
      start_none k a none z = not_so (starts_at f k) none ∙ sym (zero_starts g k z)

      go : (read : Read) → read_at f at rest ≡ read → Reads f at rest read → (then n f read).ending ≡ over
          → ((k : ℕ) → at ≤ k → of_messages f at rest (then n f read).sections k ≡ true → is_value terms (then n f read).sections k ≡ false
          → Eq f g k)
          → ((k : ℕ) → at ≤ k → of_messages f at rest (then n f read).sections k ≡ false → get_or g k 0 ≡ 0)
          → ((a r : ℕ) → (listing_from n f a r).ending ≡ over
          → ((k : ℕ) → a ≤ k → of_messages f a r (listing_from n f a r).sections k ≡ true
          → is_value terms (listing_from n f a r).sections k ≡ false → Eq f g k)
          → ((k : ℕ) → a ≤ k → of_messages f a r (listing_from n f a r).sections k ≡ false → get_or g k 0 ≡ 0)
          → listing_from n f a r ≡ listing_from n g a r)
          → then n f read ≡ then n g (read_at g at rest)
      go (Section s next) e told done' keep' blank' ih =
          let G = goes told in
          let r =
          read_same n told
          (λ k a b. keep' k (omega arith) (messages_here f told (later n told) k a (omega arith)))
          (λ k a b. start_none k a (no_start told k a b) (blank' k a (messages_gap f told n k a b))) in
          rw (← r, e)
          (ap (before s)
          (ih next.at.0 next.rest done'
          (λ k a b c. keep' k (omega arith) (messages_later f told (later n told) k a ∙ b) (no_value_later n told k a c))
          (λ k a b. blank' k (omega arith) (messages_later f told (later n told) k a ∙ b))))
      go Over e (over_between between none) done' keep' blank' ih =
          let free : (k : ℕ) → at ≤ k → starts_at f k ≡ true → ⊥ = subst (IsNextStart f at) none (next_start_first f at) in
          let zeros : (k : ℕ) → at ≤ k → get_or g k 0 ≡ 0 =
          λ k a. let x : in_span at rest k ≡ false = rw between (span_past at 0 k (omega arith)) in blank' k a (or_neither x refl) in
          let next = next_agree f g at None none (λ k a _. start_none k a (free k a) (zeros k a)) in
          let r =
          read_agree f g same at rest (λ _. message_agree f g at None none next refl)
          (λ z. absurd (omega arith))
          (λ z. absurd (z between)) in
          rw (← r, e)
      go Over e (over_within within past) done' keep' blank' ih = rw (read_over g at rest within (omega arith))
      go (Refused fault offset) e told done' keep' blank' ih = let z : ◌≡◌ {A = ℕ} 0 1 = cc in absurd (omega arith)

-- what two files have of a section: its octets but for values; and a section 0 has 16
pub record Seen (terms : Terms) (f g : List ℕ) (s : Row) : Type 0 where
  pub same_octet : (i : ℕ) → i < s.length → in_stretch (terms s.number) i ≡ false → Eq f g (s.offset.0 + i)
  pub sixteen : s.number ≡ 0 → s.length ≡ 16

-- of every section that is listed, if they have the octets of messages but for values
pub seen_from : (terms : Terms) (f g : List ℕ) (n at rest : ℕ)
    → ((k : ℕ) → at ≤ k → of_messages f at rest (listing_from n f at rest).sections k ≡ true
    → is_value terms (listing_from n f at rest).sections k ≡ false → Eq f g k)
    → Each (Seen terms f g) (listing_from n f at rest).sections
unfolding listing_from is_value
seen_from terms f g zero at rest keep = tt
seen_from terms f g (suc n) at rest keep = go (read_at f at rest) (reads f at rest) keep (seen_from terms f g n)
  where
    sized : {s : Row} {next : Cursor} → Reads f at rest (Section s next) → s.number ≡ 0 → s.length ≡ 16
    sized (opens G o) e = o.size
    sized (closes G o) e = absurd (omega arith)
    sized (heads G o) e = absurd (omega arith)

    go : (read : Read) → Reads f at rest read
        → ((k : ℕ) → at ≤ k → of_messages f at rest (then n f read).sections k ≡ true → is_value terms (then n f read).sections k ≡ false
        → Eq f g k)
        → ((a r : ℕ) → ((k : ℕ) → a ≤ k → of_messages f a r (listing_from n f a r).sections k ≡ true
        → is_value terms (listing_from n f a r).sections k ≡ false → Eq f g k) → Each (Seen terms f g) (listing_from n f a r).sections)
        → Each (Seen terms f g) (then n f read).sections
    go (Section s next) told keep' ih =
        let G = goes told in
        let more = (listing_from n f next.at.0 next.rest).sections in
        let own : (i : ℕ) → s.offset.0 + i - s.offset.0 ≡ i = λ i. omega arith in (
          record {
            same_octet = λ i a b.
                let k = s.offset.0 + i in
                keep' k (omega arith) (messages_here f told more k (omega arith) (omega arith))
                (or_neither (carries_none terms s k (ap (in_stretch (terms s.number)) (own i) ∙ b))
                (values_below f terms n next.at.0 next.rest k (omega arith)));
            sixteen = sized told;
          },
          ih next.at.0 next.rest (λ k a b c.
              keep' k (omega arith) (messages_later f told more k a ∙ b) (or_neither (carries_past terms s k (omega arith)) c)),
        )
    go Over told keep' ih = tt
    go (Refused fault offset) told keep' ih = tt
