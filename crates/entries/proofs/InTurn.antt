-- A line whose pieces are put one before the other, from the line feed to the message, is the entry's, at the end of the octets.
use Prim.Native.Nat.{ℕ, zero, suc, ◌-◌, ◌≤◌}
use native.Mathlib.Omega.{arith}
use mathlib.Core.Path.{◌≡◌, refl, ap, subst, ◌∙◌}
use mathlib.Core.List.{List, [], ◌∷◌, ◌++◌, append_assoc, append-nil}
use lib.ListN.{length, take, drop, set, replicate, length-replicate, drop_of_length-le}
use Rattle.entries.specs.Decimal.{decimal}
use Rattle.entries.specs.Entries.{colon, line_feed, octet_text, unit_text, time_text, nine_fields, entry_line, spelled_of}
use Rattle.entries.specs.Put.{PutBefore}
use Rattle.entries.specs.declared.Entry.{Entry}
use Rattle.entries.specs.declared.Spelled.{Spelled}
use Rattle.entries.proofs.Put.{put_octet, put_then}

abbrev pub zeros : ℕ → List ℕ
zeros n = replicate n 0

take_zeros : (n m : ℕ) → n ≤ m → take n (zeros m) ≡ zeros n
take_zeros zero m h = refl
take_zeros (suc n) zero h = absurd (omega arith)
take_zeros (suc n) (suc m) h = ap (λ (l : List ℕ). 0 ∷ l) (take_zeros n m (omega arith))

-- a text put at the end of zeros
at_the_end : {text : List ℕ} (n : ℕ) {start : ℕ} {exit : List ℕ} → PutBefore n text (zeros n) start exit
    → (exit ≡ zeros (n - length text) ++ text) × (start ≡ n - length text)
at_the_end {text} n {start} {exit} put =
    let starts = put.starts in
    let is : start ≡ n - length text = omega arith in
    let none : drop n (zeros n) ≡ [] = drop_of_length-le (zeros n) {i = n} (omega (arith, length-replicate {A = ℕ} n 0)) in (
      put.same
          ∙ rw (none, append-nil, take_zeros start n (omega arith), is),
      is,
    )

-- the pieces, from the last to the first
abbrev piecewise : Entry → List ℕ
piecewise e =
    decimal e.message
    ++ ((colon ∷ decimal e.submessage)
    ++ ((colon ∷ decimal e.offset.0)
    ++ ((colon ∷ decimal e.discipline)
    ++ ((colon ∷ octet_text e.category)
    ++ ((colon ∷ octet_text e.number)
    ++ (((colon ∷ unit_text e.time) ++ (colon ∷ time_text e.time))
    ++ ((colon ∷ octet_text e.surface)
    ++ (line_feed ∷ []))))))))

is_piecewise : (e : Entry) → piecewise e ≡ entry_line e
unfolding entry_line nine_fields
is_piecewise e = simp append_assoc

module _ (e : Entry) {a₁ a₂ a₃ a₄ a₅ a₆ a₇ a₈ : ℕ} {d₁ d₂ d₃ d₄ d₅ d₆ d₇ d₈ : List ℕ} where
  pub put_in_turn : PutBefore 97 (colon ∷ octet_text e.surface) (set (zeros 98) 97 10) a₁ d₁
      → PutBefore a₁ ((colon ∷ unit_text e.time) ++ (colon ∷ time_text e.time)) d₁ a₂ d₂
      → PutBefore a₂ (colon ∷ octet_text e.number) d₂ a₃ d₃
      → PutBefore a₃ (colon ∷ octet_text e.category) d₃ a₄ d₄
      → PutBefore a₄ (colon ∷ decimal e.discipline) d₄ a₅ d₅
      → PutBefore a₅ (colon ∷ decimal e.offset.0) d₅ a₆ d₆
      → PutBefore a₆ (colon ∷ decimal e.submessage) d₆ a₇ d₇
      → PutBefore a₇ (decimal e.message) d₇ a₈ d₈
      → ◌≡◌ {A = Spelled} (record { octets = d₈; start = a₈ }) (spelled_of e)
  unfolding spelled_of
  put_in_turn surface time number category discipline offset submessage message =
      let long : length (zeros 98) ≡ 98 = length-replicate {A = ℕ} 98 0 in
      let room : 98 ≤ length (zeros 98) = omega arith in
      let put₀ = put_octet 97 10 (zeros 98) (omega arith) in
      let put₁ = put_then room put₀ surface in
      let put₂ = put_then room put₁ time in
      let put₃ = put_then room put₂ number in
      let put₄ = put_then room put₃ category in
      let put₅ = put_then room put₄ discipline in
      let put₆ = put_then room put₅ offset in
      let put₇ = put_then room put₆ submessage in
      let put₈ = put_then room put₇ message in
      let all : PutBefore 98 (entry_line e) (zeros 98) a₈ d₈ =
      subst (λ (l : List ℕ). PutBefore 98 l (zeros 98) a₈ d₈) (is_piecewise e) put₈ in
      let ends = at_the_end 98 all in
      rw (ends.0, ends.1)
