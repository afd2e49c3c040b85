-- A table that is filled from the front: what is put at an index, and what was there before behind it.
use Rattle.std.proofs.Common.{◌≡◌, ℕ, zero, suc, ◌+◌, ◌*◌, ◌/◌, ◌<◌, ◌≤◌, leb, get_or, List, [], ◌∷◌, ◌++◌, length, take, drop, set, sym, refl, ap, ◌∙◌, append_assoc, add-zero, add_assoc, zero-add, add-one, arith, length-append, length-drop, take-append-drop, length-take-le, take-suc, drop-drop, take_at, drop_at, le-leb, leb-false}
use native.Mathlib.Numerals.{towards_suc}
use lib.Seq.{set_split}
use borrow.Author.Tests.{lt-leb, lt-ltb, le-ltb}
use Rattle.framing.proofs.Tests.{by_test}
use Rattle.framing.specs.declared.read.Section.{Section}
use Rattle.standing.specs.Put.{put_at, row_of, row_put, numbers_put}
use Rattle.standing.specs.Tables.{stored_over}

module _ {A : Type 0} where
  pub put_none : (i : ℕ) (l : List A) → put_at i [] l ≡ l
  put_none i l = ap (λ (k : ℕ). take i l ++ drop k l) (add-zero i) ∙ take-append-drop i l

  -- what is put stands behind what was put before it
  head_length : (i : ℕ) (a l : List A) → i + length a ≤ length l → length (take i l ++ a) ≡ i + length a
  head_length i a l h = length-append (take i l) a ∙ ap (λ (k : ℕ). k + length a) (length-take-le i l (omega arith))

  pub put_more : (i : ℕ) (a b l : List A) → i + length a ≤ length l → put_at (i + length a) b (put_at i a l) ≡ put_at i (a ++ b) l
  put_more i a b l h =
      let head = take i l ++ a in
      let tail = drop (i + length a) l in
      let whole : put_at i a l ≡ head ++ tail = sym (append_assoc (take i l) a tail) in
      let front = take_at head tail (i + length a) (head_length i a l h) in
      let behind = drop_at head tail (i + length a) (head_length i a l h) in
      ap (put_at (i + length a) b) whole
      ∙ ap (λ (x : List A). x ++ (b ++ drop (i + length a + length b) (head ++ tail))) front
      ∙ ap (λ (x : List A). head ++ (b ++ x)) (sym (drop-drop (length b) (i + length a) (head ++ tail)) ∙ ap (drop (length b)) behind ∙ drop-drop (length b) (i + length a) l)
      ∙ append_assoc (take i l) a (b ++ drop (i + length a + length b) l)
      ∙ ap (λ (x : List A). take i l ++ x) (sym (append_assoc a b (drop (i + length a + length b) l)))
      ∙ ap (λ (k : ℕ). take i l ++ ((a ++ b) ++ drop k l)) (add_assoc i (length a) (length b) ∙ ap (λ (k : ℕ). i + k) (sym (length-append a b)))

  pub put_length : (i : ℕ) (a l : List A) → i + length a ≤ length l → length (put_at i a l) ≡ length l
  put_length i a l h =
      simp (length-append, length-drop, length-take-le i l (omega arith)) (omega arith)

  -- one element put is one stored
  pub put_one : (i : ℕ) (x : A) (l : List A) → i < length l → set l i x ≡ put_at i (x ∷ []) l
  put_one i x l h = set_split l i x h ∙ ap (λ (k : ℕ). take i l ++ x ∷ drop k l) (sym (add-one i))

  -- from the start on
  pub put_stored : (new l : List A) → put_at 0 new l ≡ stored_over new l
  put_stored new l = ap (λ (k : ℕ). new ++ drop k l) (zero-add (length new))

-- three numbers stored from index i on
three : (l : List ℕ) (i a b c : ℕ) → suc (suc (suc i)) ≤ length l
    → set (set (set l i a) (suc i) b) (suc (suc i)) c ≡ take i l ++ (a ∷ b ∷ c ∷ drop (suc (suc (suc i))) l)
three [] i a b c h = absurd (omega arith)
three (x ∷ []) zero a b c h = absurd (omega arith)
three (x ∷ y ∷ []) zero a b c h = absurd (omega arith)
three (x ∷ y ∷ z ∷ l) zero a b c h = refl
three (x ∷ l) (suc i) a b c h = ap (λ (m : List ℕ). x ∷ m) (three l i a b c (omega arith))

-- the same, in the code's sums
pub three_at : (l : List ℕ) (i a b c : ℕ) → i + 3 ≤ length l
    → set (set (set l i a) (i + 1) b) (i + 2) c ≡ take i l ++ (a ∷ b ∷ c ∷ drop (i + 3) l)
three_at l i a b c h = simp towards_suc (three l i a b c (omega arith))

-- where the table has room for it, a row is put at its place
pub row_there : (place : ℕ) (s : Section) (rows : List ℕ) → place < length rows / 3
    → row_put place s rows ≡ put_at (place * 3) (row_of s) rows
unfolding row_put
row_there place s rows free = simp (lt-leb _ _ free)

-- .. and elsewhere nothing changes
pub row_nowhere : (place : ℕ) (s : Section) (rows : List ℕ) → length rows / 3 ≤ place → row_put place s rows ≡ rows
unfolding row_put
row_nowhere place s rows full = simp (le-leb _ _ full)

-- a row leaves the table's length
pub row_length : (place : ℕ) (s : Section) (rows : List ℕ) → length (row_put place s rows) ≡ length rows
unfolding row_put
row_length place s rows =
    by_test (λ (l : List ℕ). length l ≡ length rows) (leb (length rows / 3) place) (λ full. refl)
    λ left. put_length (place * 3) (row_of s) rows (omega (arith, leb-false (length rows / 3) place left))

-- where the table has room for them, numbers are put at an index
pub numbers_there : (at : ℕ) (numbers table : List ℕ) → at + length numbers ≤ length table
    → numbers_put at numbers table ≡ put_at at numbers table
unfolding numbers_put
numbers_there at numbers table room = simp (le-ltb _ _ room)

-- .. and elsewhere nothing changes
pub numbers_nowhere : (at : ℕ) (numbers table : List ℕ) → length table < at + length numbers
    → numbers_put at numbers table ≡ table
unfolding numbers_put
numbers_nowhere at numbers table full = simp (lt-ltb _ _ full)

-- the first of some numbers are put, and then the next of them
pub next_put : (at : ℕ) (numbers before : List ℕ) {table : List ℕ} (i : ℕ)
    → at + length numbers ≤ length before → i < length numbers
    → table ≡ put_at at (take i numbers) before
    → set table (at + i) (get_or numbers i 0) ≡ put_at at (take (i + 1) numbers) before
next_put at numbers before {table} i room more same =
    let x = get_or numbers i 0 in
    let front : length (take i numbers) ≡ i = length-take-le i numbers (omega arith) in
    let fits : at + length (take i numbers) ≤ length before = omega (arith, front) in
    let long : length table ≡ length before =
    ap (λ (l : List ℕ). length l) same ∙ put_length at (take i numbers) before fits in
    let longer : take i numbers ++ (x ∷ []) ≡ take (i + 1) numbers =
    rw add-one (sym (take-suc numbers i 0 more)) in
    put_one (at + i) x table (omega (arith, long))
    ∙ ap (put_at (at + i) (x ∷ [])) same
    ∙ ap (λ (k : ℕ). put_at (at + k) (x ∷ []) (put_at at (take i numbers) before)) (sym front)
    ∙ put_more at (take i numbers) (x ∷ []) before fits
    ∙ ap (λ (l : List ℕ). put_at at l before) longer
