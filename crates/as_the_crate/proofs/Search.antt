-- The search of read_sect0, in blocks of 4096 octets, finds the next start of 01.
use Rattle.std.specs.Prelude.{Option, Some, None}
use Prim.Native.Nat.{ℕ, zero, suc, ◌+◌, ◌-◌, ◌≤◌, ◌<◌}
use native.Mathlib.Omega.{arith}
use mathlib.Core.Path.{◌≡◌, refl, ap, ◌∙◌}
use mathlib.Core.Bool.{true, false}
use mathlib.Core.List.{List}
use lib.Dec.{ltb}
use lib.ListN.{length}
use borrow.Author.Tests.{ltb-true, ltb-false, lt-ltb, le-ltb}
use Rattle.framing.specs.Search.{says, starts_at, IsNextStart, next_start}
use Rattle.framing.proofs.Tests.{tests, by_test, never_both}
use Rattle.framing.proofs.NextStart.{start_room, start_says, is_start, next_start_first, next_start_is}
use Rattle.as_the_crate.specs.Std.{Result, gives, none, begun, try, Cursor-read, Cursor-seek}
use Rattle.as_the_crate.specs.Reader.{Sect0, Indicator-from_slice, magic_among, in_block, read_sect0_loop, read_sect0}

-- a seek that stays within u64
pub seek_is : (at forward back to : ℕ) → at + forward ≡ to + back → to < 18446744073709551616 → Cursor-seek at forward back ≡ gives to
unfolding Cursor-seek
seek_is at forward back to is below =
    let e : at + forward - back ≡ to = omega arith in
    simp (le-ltb (at + forward) back (omega arith), e, lt-ltb to 18446744073709551616 below)

-- how many octets a read gives
pub record Reading (file : List ℕ) (at room size : ℕ) : Type 0 where
  pub left : size ≤ length file - at
  pub most : size ≤ room
  pub all : size < room → size ≡ length file - at

pub reading : (file : List ℕ) (at room : ℕ) → Reading file at room (Cursor-read file at room)
unfolding Cursor-read
reading file at room =
    by_test (Reading file at room) (ltb (length file - at) room)
    (λ e. record { left = omega arith; most = omega (arith, tests); all = λ p. refl })
    (λ e. record { left = omega (arith, tests); most = omega arith; all = λ p. omega arith })

abbrev Magic : List ℕ → ℕ → Type 0
Magic file g = says file g 71 82 73 66 ≡ true

-- the first place of a part of a block that says GRIB
abbrev IsMagic : List ℕ → ℕ → ℕ → ℕ → Option ℕ → Type 0
IsMagic file at pos count (Some p) =
    (pos ≤ p) × (p < pos + count) × Magic file (at + p) × ((k : ℕ) → pos ≤ k → k < p → Magic file (at + k) → ⊥)
IsMagic file at pos count None = (k : ℕ) → pos ≤ k → k < pos + count → Magic file (at + k) → ⊥

past : (file : List ℕ) (at pos k : ℕ) → says file (at + pos) 71 82 73 66 ≡ false → Magic file (at + k) → pos ≤ k → pos + 1 ≤ k
past file at pos k free there from = let other : pos ≡ k → ⊥ = λ e. never_both there (rw e at free) in omega arith

one_later : (file : List ℕ) (at pos count : ℕ) (o : Option ℕ) → says file (at + pos) 71 82 73 66 ≡ false
    → IsMagic file at (pos + 1) count o → IsMagic file at pos (suc count) o
one_later file at pos count (Some p) free (from, below, there, first) =
    (omega arith, omega arith, there, λ k low high m. first k (past file at pos k free m low) high m)
one_later file at pos count None free absent = λ k low high m. absent k (past file at pos k free m low) (omega arith) m

magic_is : (count : ℕ) (file : List ℕ) (at pos : ℕ) → IsMagic file at pos count (magic_among count file at pos)
unfolding magic_among
magic_is zero file at pos = λ k low high. absurd (omega arith)
magic_is (suc count) file at pos =
    by_test (IsMagic file at pos (suc count)) (says file (at + pos) 71 82 73 66)
    (λ e. (omega arith, omega arith, e, λ k low high. absurd (omega arith)))
    (λ e. one_later file at pos count (magic_among count file at (pos + 1)) e (magic_is count file at (pos + 1)))

-- what read_sect0 answers, by where the next start is: `at` is where it looks from, `offset` what it has passed
abbrev pub found_at : List ℕ → ℕ → ℕ → Option ℕ → Result Sect0
found_at file at offset (Some g) =
    begun g (try (Indicator-from_slice file g) λ total-length. gives (offset + (g - at), total-length, g + 16))
found_at file at offset None = none

same_at : (file : List ℕ) (at offset next : ℕ) (found : Option ℕ) → IsNextStart file (at + next) found
    → found_at file (at + next) (offset + next) found ≡ found_at file at offset found
same_at file at offset next (Some g) (from, there, first) =
    let e : offset + next + (g - (at + next)) ≡ offset + (g - at) = omega arith in rw e
same_at file at offset next None absent = refl

later_start : (file : List ℕ) (at next : ℕ) (found : Option ℕ) → ((k : ℕ) → k < next → Magic file (at + k) → ⊥)
    → IsNextStart file (at + next) found → IsNextStart file at found
later_start file at next (Some g) free (from, there, first) =
    (omega arith, there, λ k below low m. by_place k below low m)
  where
    by_place : (k : ℕ) → k < g → at ≤ k → starts_at file k ≡ true → ⊥
    by_place k below low m =
        by_test (λ (n : ℕ). ⊥) (ltb k (at + next)) {a = k} {b = k}
        (λ e.
        let p = ltb-true k (at + next) e in
        let same : at + (k - at) ≡ k = omega arith in
        free (k - at) (omega arith) (rw same (start_says file k m)))
        (λ e. first k below (ltb-false k (at + next) e) m)
later_start file at next None free absent = λ k low m. by_place k low m
  where
    by_place : (k : ℕ) → at ≤ k → starts_at file k ≡ true → ⊥
    by_place k low m =
        by_test (λ (n : ℕ). ⊥) (ltb k (at + next)) {a = k} {b = k}
        (λ e.
        let p = ltb-true k (at + next) e in
        let same : at + (k - at) ≡ k = omega arith in
        free (k - at) (omega arith) (rw same (start_says file k m)))
        (λ e. absent k (ltb-false k (at + next) e) m)

-- a block with 16 octets at least
in_a_block : (file : List ℕ) (at offset size : ℕ) (again : ℕ → ℕ → Result Sect0) (o : Option ℕ)
    → length file ≤ 1099511627776 → 16 ≤ size → size ≤ length file - at
    → IsMagic file at 0 (size - 16 + 1) o
    → again (at + (size - 16 + 1)) (offset + (size - 16 + 1))
    ≡ found_at file (at + (size - 16 + 1)) (offset + (size - 16 + 1)) (next_start file (at + (size - 16 + 1)))
    → in_block o file at offset size again ≡ found_at file at offset (next_start file at)
unfolding in_block
in_a_block file at offset size again (Some p) most enough left (from, below, there, first) ih =
    let start : IsNextStart file at (Some (at + p)) = (
      omega arith,
      is_start file (at + p) (omega arith) there,
      λ k low high m.
          let same : at + (k - at) ≡ k = omega arith in
          first (k - at) (omega arith) (omega arith) (rw same (start_says file k m)),
    ) in
    let e : at + p - at ≡ p = omega arith in
    rw (← (next_start_is file at (Some (at + p)) start), e)
    (rw (seek_is (at + size) (p + 16) size (at + p + 16) (omega arith) (omega arith)) refl)
in_a_block file at offset size again None most enough left absent ih =
    let next = size - 16 + 1 in
    let here : IsNextStart file at (next_start file (at + next)) =
    later_start file at next (next_start file (at + next)) (λ k below m. absent k (omega arith) (omega arith) m)
    (next_start_first file (at + next)) in
    ap (λ (r : Result ℕ). try r λ at'. again at' (offset + next)) (seek_is (at + size) next size (at + next) (omega arith) (omega arith))
    ∙ ih ∙ same_at file at offset next (next_start file (at + next)) (next_start_first file (at + next))
    ∙ ap (found_at file at offset) (next_start_is file at (next_start file (at + next)) here)

search_loop : (turns : ℕ) (file : List ℕ) (at offset : ℕ) → length file ≤ 1099511627776 → length file - at < turns
    → read_sect0_loop turns file at offset ≡ found_at file at offset (next_start file at)
unfolding read_sect0_loop
search_loop zero file at offset most enough = absurd (omega arith)
search_loop (suc turns) file at offset most enough =
    let r = reading file at 4096 in
    let size = Cursor-read file at 4096 in
    let next = size - 16 + 1 in
    by_test (λ (a : Result Sect0). a ≡ found_at file at offset (next_start file at)) (ltb size 16)
    (λ e.
    let p = ltb-true size 16 e in
    let left : size ≡ length file - at = r.all (omega arith) in
    ap (found_at file at offset) (next_start_is file at None (λ k from there. omega (arith, start_room file k there))))
    (λ e.
    let p = ltb-false size 16 e in
    in_a_block file at offset size (λ at' offset'. read_sect0_loop turns file at' offset') (magic_among next file at 0) most p r.left
    (magic_is next file at 0)
    (search_loop turns file (at + next) (offset + next) most (omega (arith, r.left))))

-- read_sect0 finds the next start of 01
pub search_is : (file : List ℕ) (at : ℕ) → length file ≤ 1099511627776
    → read_sect0 file at ≡ found_at file at 0 (next_start file at)
unfolding read_sect0
search_is file at most = search_loop (length file + 1) file at 0 most (omega arith)
