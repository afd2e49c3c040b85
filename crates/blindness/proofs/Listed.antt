-- Where the octets of a listing's sections and messages are: those of a later read are at later places.
use Prim.Native.Nat.{ℕ, zero, suc, ◌+◌, ◌-◌, ◌≤◌, ◌<◌}
use native.Mathlib.Omega.{arith}
use native.Mathlib.Nat.{add_assoc}
use mathlib.Core.Path.{◌≡◌, refl}
use mathlib.Core.Bool.{Bool, true, false, ◌||◌}
use mathlib.Core.List.{List, ◌∷◌}
use lib.Dec.{leb, ltb, eqb}
use borrow.Author.Tests.{lt-ltb, le-ltb, le-leb, lt-leb, eq-eqb, ne_eqb}
use Rattle.octets.specs.BigEndian.{be_at}
use Rattle.framing.specs.Framing.{read_at}
use Rattle.framing.specs.Listing.{listed_by, listing_from}
use Rattle.framing.specs.declared.read.Section.{Section as Row}
use Rattle.framing.specs.declared.read.Cursor.{Cursor}
use Rattle.framing.specs.Read.{Read}
use Rattle.framing.specs.Read.{Section, Over, Refused}
use Rattle.framing.proofs.Tests.{and_of}
use Rattle.framing.proofs.OneRead.{Reads, opens, closes, heads, reads, goes}
use Rattle.publish.specs.Values.{Terms, in_stretch, in_span, carries, is_value, in_message}
use Rattle.blindness.proofs.Spared.{and_left, and_right}

pub or_neither : {a b : Bool} → a ≡ false → b ≡ false → (a || b) ≡ false
or_neither p q = rw p q

pub or_first : (a b : Bool) → a ≡ true → (a || b) ≡ true
or_first a b p = rw p

pub or_second : (a b : Bool) → b ≡ true → (a || b) ≡ true
or_second true b p = refl
or_second false b p = p

-- spans of octets
pub span_here : (at octets k : ℕ) → at ≤ k → k < at + octets → in_span at octets k ≡ true
unfolding in_span
span_here at octets k a b = and_of (le-leb at k a) (lt-ltb k (at + octets) b)

pub span_below : (at octets k : ℕ) → k < at → in_span at octets k ≡ false
unfolding in_span
span_below at octets k h = and_left (leb at k) (ltb k (at + octets)) (lt-leb at k h)

pub span_past : (at octets k : ℕ) → at + octets ≤ k → in_span at octets k ≡ false
unfolding in_span
span_past at octets k h = and_right (leb at k) (ltb k (at + octets)) (le-ltb k (at + octets) h)

-- behind the first part of a span is the second
pub span_later : (at a b k : ℕ) → at + a ≤ k → in_span at (a + b) k ≡ in_span (at + a) b k
unfolding in_span
span_later at a b k h = rw (le-leb at k (omega arith), le-leb (at + a) k h, add_assoc at a b)

-- no values octet of a section stands before or behind it, or out of its stretch
module _ (terms : Terms) (s : Row) (k : ℕ) where
  pub carries_below : k < s.offset.0 → carries terms s k ≡ false
  unfolding carries
  carries_below h = and_left _ _ (span_below s.offset.0 s.length k h)

  pub carries_past : s.offset.0 + s.length ≤ k → carries terms s k ≡ false
  unfolding carries
  carries_past h = and_left _ _ (span_past s.offset.0 s.length k h)

  pub carries_none : in_stretch (terms s.number) (k - s.offset.0) ≡ false → carries terms s k ≡ false
  unfolding carries
  carries_none h = and_right (in_span s.offset.0 s.length k) _ h

module _ (f : List ℕ) where
  -- what a listing that starts at a later place holds is at later places
  pub values_below : (terms : Terms) (n at rest k : ℕ) → k < at → is_value terms (listing_from n f at rest).sections k ≡ false
  unfolding listing_from is_value
  values_below terms zero at rest k h = refl
  values_below terms (suc n) at rest k h = go (read_at f at rest) (reads f at rest) (λ a r. values_below terms n a r k)
    where
      go : (read : Read) → Reads f at rest read → ((a r : ℕ) → k < a → is_value terms (listing_from n f a r).sections k ≡ false)
          → is_value terms (listed_by read (λ a r. listing_from n f a r)).sections k ≡ false
      go (Section s next) told ih =
          let G = goes told in
          or_neither (carries_below terms s k (omega arith)) (ih next.at.0 next.rest (omega arith))
      go Over told ih = refl
      go (Refused fault offset) told ih = refl

  pub messages_below : (n at rest k : ℕ) → k < at → in_message f (listing_from n f at rest).sections k ≡ false
  unfolding listing_from in_message
  messages_below zero at rest k h = refl
  messages_below (suc n) at rest k h = go (read_at f at rest) (reads f at rest) (λ a r. messages_below n a r k)
    where
      go : (read : Read) → Reads f at rest read → ((a r : ℕ) → k < a → in_message f (listing_from n f a r).sections k ≡ false)
          → in_message f (listed_by read (λ a r. listing_from n f a r)).sections k ≡ false
      go (Section s next) told ih =
          let G = goes told in
          or_neither
          (and_right (eqb s.number 0) _ (span_below s.offset.0 (be_at f (s.offset.0 + 8) 8) k (omega arith)))
          (ih next.at.0 next.rest (omega arith))
      go Over told ih = refl
      go (Refused fault offset) told ih = refl

  -- an octet of the message in hand, of which so many octets are to come, or of a later one
  unfoldable pub of_messages : ℕ → ℕ → List Row → ℕ → Bool
  of_messages at rest sections k = in_span at rest k || in_message f sections k

  module _ {at rest : ℕ} {s : Row} {next : Cursor} where
    -- behind a section, the messages are those from its end on
    pub messages_later : Reads f at rest (Section s next) → (later : List Row) (k : ℕ) → next.at.0 ≤ k
        → of_messages at rest (s ∷ later) k ≡ of_messages next.at.0 next.rest later k
    unfolding of_messages in_message
    messages_later (opens G o) later k h =
        let b : next.at.0 ≡ s.offset.0 + 16 = omega arith in
        let x : in_span at rest k ≡ false = rw o.between (span_past at 0 k (omega arith)) in
        let y : eqb s.number 0 ≡ true = eq-eqb s.number 0 o.number in
        let z : in_span s.offset.0 (be_at f (s.offset.0 + 8) 8) k ≡ in_span next.at.0 next.rest k =
        rw (← o.total, b) (span_later s.offset.0 16 next.rest k (omega arith)) in
        rw (x, y, z)
    messages_later (closes G o) later k h =
        let x : in_span at rest k ≡ false = rw o.last (span_past at 4 k (omega arith)) in
        let y : eqb s.number 0 ≡ false = ne_eqb s.number 0 (λ z. omega arith) in
        let z : in_span next.at.0 next.rest k ≡ false = rw o.done (span_past next.at.0 0 k (omega arith)) in
        rw (x, y, z)
    messages_later (heads G o) later k h =
        let b : next.at.0 ≡ at + s.length = omega arith in
        let y : eqb s.number 0 ≡ false = ne_eqb s.number 0 (λ z. omega arith) in
        let z : in_span at rest k ≡ in_span next.at.0 next.rest k =
        rw (← o.left, b) (span_later at s.length next.rest k (omega arith)) in
        rw (y, z)

    -- a section's own octets are of a message
    pub messages_here : Reads f at rest (Section s next) → (later : List Row) (k : ℕ) → s.offset.0 ≤ k → k < s.offset.0 + s.length
        → of_messages at rest (s ∷ later) k ≡ true
    unfolding of_messages in_message
    messages_here (opens G o) later k a b =
        or_second (in_span at rest k) _
        (or_first _ (in_message f later k)
        (and_of (eq-eqb s.number 0 o.number) (span_here s.offset.0 (be_at f (s.offset.0 + 8) 8) k a (omega arith))))
    messages_here (closes G o) later k a b = or_first (in_span at rest k) _ (span_here at rest k (omega arith) (omega arith))
    messages_here (heads G o) later k a b = or_first (in_span at rest k) _ (span_here at rest k (omega arith) (omega arith))

    -- those before it are of none
    pub messages_gap : Reads f at rest (Section s next) → (n k : ℕ) → at ≤ k → k < s.offset.0
        → of_messages at rest (s ∷ (listing_from n f next.at.0 next.rest).sections) k ≡ false
    unfolding of_messages in_message
    messages_gap (opens G o) n k a b =
        let x : in_span at rest k ≡ false = rw o.between (span_past at 0 k (omega arith)) in
        or_neither x
        (or_neither (and_right (eqb s.number 0) _ (span_below s.offset.0 (be_at f (s.offset.0 + 8) 8) k b))
        (messages_below n next.at.0 next.rest k (omega arith)))
    messages_gap (closes G o) n k a b = absurd (omega arith)
    messages_gap (heads G o) n k a b = absurd (omega arith)
