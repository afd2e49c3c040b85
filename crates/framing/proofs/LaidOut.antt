-- Every listing is laid out as 01 says, and so is each beginning of it.
use Rattle.std.specs.Prelude.{Some}
use Prim.Native.Nat.{ℕ, zero, suc, ◌+◌}
use native.Mathlib.Omega.{arith}
use mathlib.Core.Path.{◌≡◌, refl, sym, ap, subst, subst₂, ◌∙◌}
use mathlib.Core.Bool.{true}
use mathlib.Core.List.{List, [], ◌∷◌, ◌++◌}
use lib.ListN.{length, get_or}
use borrow.Author.Tests.{eqb-true, eq-eqb}
use Rattle.octets.specs.BigEndian.{be_at}
use Rattle.framing.specs.Search.{says, starts_at, IsNextStart}
use Rattle.framing.specs.Framing.{read_at}
use Rattle.framing.specs.Listing.{Listing, listed_by, listing_from, listing}
use Rattle.framing.specs.LaidOut.{stated_length, Spells, HasGrib, FirstGrib, section_of, LaidOut, nothing_more, indicator_next, end_next, headed_next, ListingIsLaidOut}
use Rattle.framing.specs.declared.read.Section.{Section}
use Rattle.framing.specs.declared.read.Cursor.{Cursor}
use Rattle.framing.specs.Read.{Read}
use Rattle.framing.proofs.Tests.{and_both, and_of}
use Rattle.framing.proofs.NextStart.{start_room, start_says, is_start, next_start_first}
use Rattle.framing.proofs.OneRead.{Goes, Opens, Closes, Heads, Reads, opens, closes, heads, over_between, over_within, refuses, reads}

-- the test of four octets
pub spells : (file : List ℕ) (at a b c d : ℕ) → says file at a b c d ≡ true → Spells file at a b c d
unfolding says
spells file at a b c d e =
    let three = and_both _ _ e in
    let two = and_both _ _ three.0 in
    let one = and_both _ _ two.0 in
    (eqb-true _ _ one.0, eqb-true _ _ one.1, eqb-true _ _ two.1, eqb-true _ _ three.1)

pub says_so : (file : List ℕ) (at a b c d : ℕ) → Spells file at a b c d → says file at a b c d ≡ true
unfolding says
says_so file at a b c d (p, q, r, s) = and_of (and_of (and_of (eq-eqb _ _ p) (eq-eqb _ _ q)) (eq-eqb _ _ r)) (eq-eqb _ _ s)

-- the next start
pub has_grib : (file : List ℕ) (g : ℕ) → starts_at file g ≡ true → HasGrib file g
has_grib file g e = (start_room file g e, spells file g 71 82 73 66 (start_says file g e))

pub first_grib : (file : List ℕ) (at g : ℕ) → IsNextStart file at (Some g) → FirstGrib file at g
first_grib file at g (from, there, none) = (
  from,
  has_grib file g there,
  λ k from' below (room, letters). none k below from' (is_start file k room (says_so file k 71 82 73 66 letters)),
)

-- a section is its number, offset and length
is_section : (s : Section) (number offset len : ℕ) → s.number ≡ number → s.offset.0 ≡ offset → s.length ≡ len
    → section_of number offset len ≡ s
is_section s number offset len n o l = λ i. record { number = sym n i; offset = record { 0 = sym o i }; length = sym l i }

module _ (file : List ℕ) where
  abbrev L : ℕ → ℕ → List Section → Type 0
  L = LaidOut file

  -- a read, and what is laid out from where it leaves off
  module _ (at rest : ℕ) (s : Section) (next : Cursor) (more : List Section) (common : Goes file at s next)
      (later : L next.at.0 next.rest more) where
    opened : Opens file at rest s next → L at rest (s ∷ more)
    opened own =
        let first = subst (IsNextStart file at) own.found (next_start_first file at) in
        let ends : next.at.0 ≡ s.offset.0 + 16 = common.ends ∙ ap (λ (n : ℕ). s.offset.0 + n) own.size in
        subst₂ (λ (n : ℕ) (x : Section). L at n (x ∷ more)) (sym own.between)
        (is_section s 0 s.offset.0 16 own.number refl own.size)
        (indicator_next (first_grib file at s.offset.0 first) own.total
        (subst (λ (n : ℕ). L n next.rest more) ends later))

    closed : Closes file at rest s next → L at rest (s ∷ more)
    closed own =
        let ends : next.at.0 ≡ at + 4 = omega arith in
        subst₂ (λ (n : ℕ) (x : Section). L at n (x ∷ more)) (sym own.last) (is_section s 8 at 4 own.number own.here own.size)
        (end_next (spells file at 55 55 55 55 own.mark) (subst₂ (λ (n k : ℕ). L n k more) ends own.done later))

    headed : Heads file at rest s next → L at rest (s ∷ more)
    headed own =
        let number = own.number in
        let size = own.size in
        let here = own.here in
        let low = own.from_1 in
        let high = own.to_7 in
        let left = own.left in
        let ends : next.at.0 ≡ at + be_at file at 4 = omega (arith, common.ends) in
        subst (λ (x : Section). L at rest (x ∷ more)) (is_section s (get_or file (at + 4) 0) at (be_at file at 4) number here size)
        (headed_next (λ z. omega (arith, own.within)) own.not_last (omega arith, omega arith)
        (λ other. let inside = common.whole (λ z. other (sym number ∙ z)) in omega arith) (omega arith)
        (subst (λ (n : ℕ). L n next.rest more) ends later))

  by_read : (at rest : ℕ) (x : Read) → Reads file at rest x → (later : ℕ → ℕ → Listing)
      → ((at' rest' : ℕ) → LaidOut file at' rest' (later at' rest').sections) → LaidOut file at rest (listed_by x later).sections
  by_read at rest _ (opens {section} {next} common own) later so = opened at rest section next _ common (so _ _) own
  by_read at rest _ (closes {section} {next} common own) later so = closed at rest section next _ common (so _ _) own
  by_read at rest _ (heads {section} {next} common own) later so = headed at rest section next _ common (so _ _) own
  by_read at rest _ (over_between e none) later so = nothing_more
  by_read at rest _ (over_within e none) later so = nothing_more
  by_read at rest _ (refuses from inside) later so = nothing_more

  pub laid_from : (count at rest : ℕ) → LaidOut file at rest (listing_from count file at rest).sections
  unfolding listing_from
  laid_from zero at rest = nothing_more
  laid_from (suc count) at rest =
      by_read at rest (read_at file at rest) (reads file at rest) (listing_from count file) (laid_from count)

-- the listing of a file
pub listing_is_laid_out : ListingIsLaidOut
unfolding listing
listing_is_laid_out file = laid_from file (length file + 1) 0 0

-- and each beginning of it
pub beginning_is_laid_out : {file : List ℕ} {at rest : ℕ} (some more : List Section) → LaidOut file at rest (some ++ more)
    → LaidOut file at rest some
beginning_is_laid_out [] more l = nothing_more
beginning_is_laid_out {file = file} {at = at} {rest = rest} (s ∷ some) more l =
    first (λ (from left : ℕ). beginning_is_laid_out {file = file} {at = from} {rest = left} some more) at rest s l
  where
    first : ((at rest : ℕ) → LaidOut file at rest (some ++ more) → LaidOut file at rest some)
        → (at rest : ℕ) (s : Section) → LaidOut file at rest (s ∷ (some ++ more)) → LaidOut file at rest (s ∷ some)
    first later at _ _ (indicator_next {g = g} {rest = rest} opening total l) = indicator_next opening total (later (g + 16) rest l)
    first later at _ _ (end_next sevens l) = end_next sevens (later (at + 4) 0 l)
    first later at _ _ (headed_next {later = left} a b number inside taken l) =
        headed_next a b number inside taken (later (at + stated_length file at) left l)
