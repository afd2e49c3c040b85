-- What is read where the tests of `is_whole`, `header_ahead` and `end_ahead` pass.
use Rattle.std.specs.Prelude.{Option, Some, None}
use Prim.Native.Nat.{ℕ, ◌+◌, ◌-◌, ◌≤◌, ◌<◌}
use native.Mathlib.Nat.{add-zero}
use native.Mathlib.Omega.{arith}
use mathlib.Core.Path.{◌≡◌, refl, sym, ap, ◌∙◌}
use mathlib.Core.Bool.{Bool, true, false, not, ◌&&◌, ◌||◌}
use mathlib.Core.List.{List, [], ◌∷◌}
use lib.Dec.{ltb, eqb}
use lib.ListN.{length, get_or}
use borrow.Author.Tests.{eqb-true, lt-leb, le-ltb, ne_eqb}
use Rattle.octets.specs.BigEndian.{be_at}
use Rattle.sections.specs.Kinds.{least_payload_of, kind_of, kinds}
use Rattle.framing.specs.Search.{says}
use Rattle.framing.specs.Framing.{section_at, end_at, is_cut, payload_at, header_at, read_at}
use Rattle.framing.specs.Read.{Read}

-- the octets of a least payload
octets_of : Option ℕ → ℕ
octets_of (Some n) = n
octets_of None = 0

-- the least payload of a section 6 is an octet
of_6 : (number least : ℕ) → least_payload_of number ≡ Some least → number ≡ 6 → least ≡ 1
unfolding least_payload_of kind_of kinds octets_of
of_6 number least of e = sym (ap octets_of (ap least_payload_of (sym e) ∙ of))

module _ (number len left least : ℕ) (of : least_payload_of number ≡ Some least) (header : 5 ≤ len) (enough : least ≤ len - 5) where
  -- a section that lies in the file is not cut
  pub uncut : len ≤ left → is_cut number len left ≡ false
  unfolding is_cut
  uncut inside =
      by_numbers (eqb number 7) (eqb number 6)
      (λ e. let one = of_6 number least of (eqb-true number 6 e) in le-ltb left 6 (omega arith))
    where
      -- by whether it is a section 7, and whether it is a section 6
      by_numbers : (is_7 is-6 : Bool) → (is-6 ≡ true → ltb left 6 ≡ false)
          → (not is_7 && (ltb left len || (is-6 && ltb left 6))) ≡ false
      by_numbers true is-6 short = refl
      by_numbers false true short = simp (le-ltb left len inside, short refl)
      by_numbers false false short = simp (le-ltb left len inside)

  -- nothing is refused
  pub passes : is_cut number len left ≡ false → (at rest : ℕ) → len ≤ rest
      → payload_at (least_payload_of number) at number len left rest ≡ section_at number at len (rest - len)
  unfolding payload_at
  passes whole at rest room = simp (of, whole, le-ltb (len - 5) least enough, le-ltb rest len room)

-- a section with a header is read
pub header_reads : (file : List ℕ) (at rest : ℕ) {found : Read} → 4 < rest → at < length file → 5 ≤ length file - at → 5 ≤ be_at file at 4
    → payload_at (least_payload_of (get_or file (at + 4) 0)) at (get_or file (at + 4) 0) (be_at file at 4) (length file - at) rest ≡ found
    → read_at file at rest ≡ found
unfolding read_at header_at
header_reads file at rest more inside header long found =
    simp (
      ne_eqb rest 0 (λ e. omega arith),
      lt-leb (length file) at inside,
      ne_eqb rest 4 (λ e. omega arith),
      le-ltb (length file - at) 5 header,
      le-ltb (be_at file at 4) 5 long,
      found,
    )

-- section 8 is read
pub end_reads : (file : List ℕ) (at rest : ℕ) → rest ≡ 4 → at < length file → 4 ≤ length file - at → says file at 55 55 55 55 ≡ true
    → read_at file at rest ≡ section_at 8 at 4 0
unfolding read_at end_at
end_reads file at rest e inside room mark =
    simp (e, lt-leb (length file) at inside, le-ltb (length file - at) 4 room, mark)

-- four octets, and the number that they are in the file
pub four : (s : List ℕ) (at : ℕ)
    → be_at (get_or s at 0 ∷ get_or s (at + 1) 0 ∷ get_or s (at + 2) 0 ∷ get_or s (at + 3) 0 ∷ []) 0 4 ≡ be_at s at 4
unfolding be_at
four s at = rw add-zero
