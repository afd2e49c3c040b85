-- What a section that is passed changes: one section more is told, and it comes in force; a section 0 says where its message stands.
use Rattle.std.specs.Prelude.{Option, Some}
use Rattle.std.proofs.Common.{◌≡◌, ℕ, ◌+◌, ◌<◌, ◌≤◌, Bool, true, false, eqb, List, set, refl, ap, ◌∙◌, arith, le-ltb, lt-ltb, eq-eqb, ne_eqb, eqb-true}
use Rattle.octets.specs.Words.{pick}
use Rattle.octets.specs.BigEndian.{be_at}
use Rattle.octets.proofs.Laws.{be_lt}
use Rattle.framing.specs.Framing.{read_at}
use Rattle.framing.specs.Read as read
use Rattle.framing.proofs.OneRead.{Reads, opens, closes, heads, reads_as}
use Rattle.order.specs.declared.Place.{Place}
use Rattle.index.specs.Lines.{with_span, in_force}
use Rattle.index.specs.Lines as lines
use Rattle.index.specs.Walk.{span_at, span_behind}
use Rattle.index.specs.declared.line.Span.{Span}
use Rattle.framing.specs.declared.read.Section.{Section}
use Rattle.framing.specs.declared.read.Cursor.{Cursor}
use Rattle.index.specs.declared.line.Force.{Force}
use Rattle.standing.specs.declared.Standing.{Standing}
use Rattle.standing.specs.Standing.{IsOctets, one_more, force_in, total_of, span_after}

-- a count below the end has one more
pub more : (n : ℕ) → n < 18446744073709551615 → one_more n ≡ n + 1
unfolding one_more
more n below = simp (lt-ltb n 18446744073709551615 below)

-- one at its end stays
pub stays : (n : ℕ) → 18446744073709551615 ≤ n → one_more n ≡ n
unfolding one_more
stays n end = simp (le-ltb n 18446744073709551615 end)

-- what is in force behind a section, before so much more of its message
abbrev pub behind : Force → Section → Cursor → Place → Force
behind f s next here = with_span (in_force f s.number here) (span_after f.span s next)

-- a total length of 64 bits is that sum
total_is : (rest : ℕ) → rest + 16 < 18446744073709551616 → total_of rest ≡ rest + 16
unfolding total_of
total_is rest fits = omega arith

-- what is left of a message behind its section 0 tells the total length that this states
pub said : {file walks : List ℕ} (at rest : ℕ) {s : Section} {next : Cursor} → walks ≡ file → IsOctets file → (before : Span)
    → read_at file at rest ≡ read.Section s next → span_behind walks before s ≡ span_after before s next
unfolding span_behind span_after span_at
said {file} {walks} at rest {s} {next} same octets before e =
    by_number (eqb s.number 0) refl
  where
    by_total : 16 + next.rest ≡ be_at file (s.offset.0 + 8) 8 → span_at walks s.offset ≡ lines.span s.offset (total_of next.rest)
    by_total total =
        let most = be_lt file (s.offset.0 + 8) (λ i. record { fits = octets i }) 8 in
        let is = total_is next.rest (omega (arith, total)) in
        ap (λ (n : ℕ). lines.span s.offset n)
        (ap (λ (f : List ℕ). be_at f (s.offset.0 + 8) 8) same ∙ omega (arith, total, is))

    stated : s.number ≡ 0 → Reads file at rest (read.Section s next) → span_at walks s.offset ≡ lines.span s.offset (total_of next.rest)
    stated zeroth (opens common own) = by_total own.total
    stated zeroth (closes common own) = absurd (omega (arith, own.number))
    stated zeroth (heads common own) = absurd (omega (arith, own.from_1))

    by_number : (t : Bool) → eqb s.number 0 ≡ t
        → pick t (span_at walks s.offset) before ≡ pick t (lines.span s.offset (total_of next.rest)) before
    by_number true zeroth = stated (eqb-true s.number 0 zeroth) (reads_as file at rest e)
    by_number false other = refl

-- and in the walk's variables: by a section 2, by one behind it, and by one before
module _ (at : Standing) (span : Span) (local : Option Place) (places : List Place) (s : Section) (next : Cursor) (here : Place) where
  pub in_force_local : s.number ≡ 2 → behind (force_in at span local places) s next here ≡ force_in at span (Some here) places
  unfolding in_force span_after
  in_force_local two = rw (eq-eqb s.number 2 two, ne_eqb s.number 0 (λ e. omega arith)) refl

  pub in_force_kept : 2 < s.number → s.number < 8
      → behind (force_in at span local places) s next here ≡ force_in at span local (set places s.number here)
  unfolding in_force span_after
  in_force_kept late kept =
      rw (ne_eqb s.number 2 (λ e. omega arith), ne_eqb s.number 0 (λ e. omega arith), lt-ltb s.number 8 kept) refl

  pub in_force_early : s.number ≤ 2 → (s.number ≡ 2 → ⊥)
      → behind (force_in at span local places) s next here ≡ force_in at (span_after span s next) local (set places s.number here)
  unfolding in_force
  in_force_early early other = rw (ne_eqb s.number 2 other, lt-ltb s.number 8 (omega arith)) refl
