-- Laws of a text that is put right before an index.
use Prim.Native.Nat.{ℕ, suc, ◌+◌, ◌-◌, ◌≤◌, ◌<◌, ◌^◌}
use native.Mathlib.Omega.{arith}
use native.Mathlib.Nat.{add-zero}
use mathlib.Core.Path.{◌≡◌, sym, ap, subst, ◌∙◌}
use mathlib.Core.List.{List, [], ◌∷◌, ◌++◌, append_assoc}
use lib.ListN.{length, take, drop, set, length-append, length-drop, take-append-drop}
use lib.Seq.{length-take-le, take-append-le, take-take, drop_at, set_split}
use Rattle.entries.specs.Decimal.{decimal}
use Rattle.entries.specs.Entries.{colon}
use Rattle.entries.specs.Put.{PutBefore}
use Rattle.entries.proofs.Decimal.{decimal_length}

pub put_nothing : (end : ℕ) (dest : List ℕ) → PutBefore end [] dest end dest
put_nothing end dest = record { starts = add-zero end; same = sym (take-append-drop end dest) }

-- one octet
pub put_octet : (at octet : ℕ) (dest : List ℕ) → at < length dest → PutBefore (suc at) (octet ∷ []) dest at (set dest at octet)
put_octet at octet dest inside = record { starts = omega arith; same = set_split dest at octet inside }

module _ {end start : ℕ} {text dest exit : List ℕ} (room : end ≤ length dest) (put : PutBefore end text dest start exit) where
  pub same_length : length exit ≡ length dest
  same_length =
      let starts = put.starts in
      ap length put.same
      ∙ simp (length-append, length-take-le start dest (omega arith), length-drop) (omega arith)

  -- a text put right before another is put with it
  pub put_then : {further : ℕ} {front last : List ℕ} → PutBefore start front exit further last
      → PutBefore end (front ++ text) dest further last
  put_then {further} {front} {last} then =
      let starts = put.starts in
      let starts' = then.starts in
      let before : length (take start dest) ≡ start = length-take-le start dest (omega arith) in
      let taken : take further exit ≡ take further dest =
      ap (take further) put.same
      ∙ take-append-le further (take start dest) (text ++ drop end dest) (omega arith)
      ∙ take-take further start dest (omega arith) in
      let dropped : drop start exit ≡ text ++ drop end dest =
      ap (drop start) put.same ∙ drop_at (take start dest) (text ++ drop end dest) start before in
      record {
        starts = simp length-append (omega arith);
        same = then.same ∙ rw (taken, dropped) (simp append_assoc);
      }

  -- one octet right before it
  pub put_front : {octet : ℕ} → 0 < start → PutBefore end (octet ∷ text) dest (start - 1) (set exit (start - 1) octet)
  put_front {octet} some =
      let starts = put.starts in
      let long = same_length in
      let one : suc (start - 1) ≡ start = omega arith in
      put_then {front = octet ∷ []}
      (subst (λ (n : ℕ). PutBefore n (octet ∷ []) exit (start - 1) (set exit (start - 1) octet)) one
      (put_octet (start - 1) octet exit (omega arith)))

-- so many octets at most that a number behind a colon takes
pub number_field_room : (more : ℕ) {end n start : ℕ} {dest exit : List ℕ} → n < 10 ^ suc more → n < 10 ^ 20
    → PutBefore end (colon ∷ decimal n) dest start exit → end ≤ start + suc (suc more)
number_field_room more {n = n} few small put = omega (arith, decimal_length more n few small, put.starts)
