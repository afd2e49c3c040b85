-- Where the input is over, no section is laid out behind those that are listed.
use Rattle.std.specs.Prelude.{None}
use Prim.Native.Nat.{ℕ, zero, suc, ◌+◌, ◌-◌, ◌≤◌, ◌<◌}
use native.Mathlib.Omega.{arith}
use mathlib.Core.Path.{◌≡◌, refl, sym, ap, subst, subst₂}
use mathlib.Core.List.{List, [], ◌∷◌, ◌++◌}
use lib.ListN.{length, get_or-eq_default}
use Rattle.octets.specs.BigEndian.{be_at}
use Rattle.framing.specs.Search.{IsNextStart, next_start}
use Rattle.framing.specs.Framing.{read_at}
use Rattle.framing.specs.Listing.{Listing, over, listed_by, listing}
use Rattle.framing.specs.LaidOut.{LaidOut, OverListsAll}
use Rattle.framing.specs.declared.read.Section.{Section}
use Rattle.framing.specs.declared.read.Cursor.{Cursor}
use Rattle.framing.specs.Read.{Read}
use Rattle.framing.specs.Read as read
use Rattle.framing.proofs.NextStart.{is_start, next_start_first}
use Rattle.framing.proofs.OneRead.{Reads, opens, closes, heads, over_between, over_within, reads, goes}
use Rattle.framing.proofs.Listing.{listing_on, listing_next, listing_is}
use Rattle.framing.proofs.LaidOut.{says_so}
use Rattle.framing.proofs.OneLayout.{First, zeroth, eighth, other, first}

module _ (file : List ℕ) where
  abbrev L : ℕ → ℕ → List Section → Type 0
  L = LaidOut file

  -- what is laid out behind a section that is read is laid out from where the read leaves off
  behind : (at rest : ℕ) (s : Section) (next : Cursor) (more : List Section) → Reads file at rest (read.Section s next)
      → First file at rest s more → L next.at.0 next.rest more
  behind at rest s next more (opens common own) (zeroth g later z found total e l) =
      let here : g ≡ s.offset.0 = ap (λ (x : Section). x.offset.0) (sym e) in
      let said = ap (λ (x : ℕ). be_at file (x + 8) 8) here in
      let size = own.size in
      let sum = own.total in
      subst₂ (λ (x y : ℕ). L x y more) (omega (arith, common.ends)) (omega arith) l
  behind at rest s next more (closes common own) (eighth z w e l) =
      let size = own.size in
      let here = own.here in
      subst₂ (λ (x y : ℕ). L x y more) (omega (arith, common.ends)) (sym own.done) l
  behind at rest s next more (heads common own) (other later a b n taken e l) =
      let size = own.size in
      let here = own.here in
      let left = own.left in
      subst₂ (λ (x y : ℕ). L x y more) (omega (arith, common.ends)) (omega arith) l
  behind at rest s next more (opens common own) (eighth z w e l) = absurd (omega (arith, own.between))
  behind at rest s next more (opens common own) (other later a b n taken e l) = absurd (a own.between)
  behind at rest s next more (closes common own) (zeroth g later z found total e l) = absurd (omega (arith, own.last))
  behind at rest s next more (closes common own) (other later a b n taken e l) = absurd (b own.last)
  behind at rest s next more (heads common own) (zeroth g later z found total e l) = absurd (omega (arith, own.within))
  behind at rest s next more (heads common own) (eighth z w e l) = absurd (own.not_last z)

  -- nothing is laid out where the input is over
  none_between : (at rest : ℕ) → rest ≡ 0 → next_start file at ≡ None → (more : List Section) → L at rest more → more ≡ []
  none_between at rest between none [] l = refl
  none_between at rest between none (s ∷ more) l = go (first file l)
    where
      go : First file at rest s more → s ∷ more ≡ []
      go (zeroth g later z (from, (room, letters), before) total e l) =
          absurd (subst (IsNextStart file at) none (next_start_first file at) g from (is_start file g room (says_so file g 71 82 73 66 letters)))
      go (eighth z w e l) = absurd (omega arith)
      go (other later a b n taken e l) = absurd (a between)

  none_within : (at rest : ℕ) → 0 < rest → length file ≤ at → (more : List Section) → L at rest more → more ≡ []
  none_within at rest within end [] l = refl
  none_within at rest within end (s ∷ more) l = go (first file l)
    where
      go : First file at rest s more → s ∷ more ≡ []
      go (zeroth g later z found total e l) = absurd (omega arith)
      go (eighth z w e l) = let none = get_or-eq_default file 0 {n = at} end in let seven = w.0 in absurd (omega arith)
      go (other later a b n taken e l) = let none = get_or-eq_default file 0 {n = at + 4} (omega arith) in absurd (omega arith)

  -- from every place on
  abbrev All : ℕ → ℕ → Listing → Type 0
  All at rest listing = (more : List Section) → listing.ending ≡ over → L at rest (listing.sections ++ more) → more ≡ []

  all_from : (fuel at rest : ℕ) → length file - at < fuel → All at rest (listing_on file at rest)
  all_from zero at rest few = absurd (omega arith)
  all_from (suc fuel) at rest few =
      subst (All at rest) (sym (listing_next file at rest)) (go (read_at file at rest) (reads file at rest) (all_from fuel))
    where
      go : (x : Read) → Reads file at rest x → ((at' rest' : ℕ) → length file - at' < fuel → All at' rest' (listing_on file at' rest'))
          → All at rest (listed_by x (listing_on file))
      go (read.Section s next) told later = λ more ended l.
          let forward = goes told in
          later next.at.0 next.rest (omega arith) more ended (behind at rest s next _ told (first file l))
      go read.Over (over_between e none) later = λ more ended l. none_between at rest e none more l
      go read.Over (over_within e none) later = λ more ended l. none_within at rest e none more l
      go (read.Refused fault offset) told later = λ more ended l. let z : ◌≡◌ {A = ℕ} 0 1 = cc in absurd (omega arith)

pub over_lists_all : OverListsAll
over_lists_all file = subst (All file 0 0) (sym (listing_is file)) (all_from file (suc (length file - 0)) 0 0 (omega arith))
