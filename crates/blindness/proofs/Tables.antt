-- A walk that ends clean with some room is the walk with room for all: no file has as many sections.
use Rattle.std.specs.Prelude.{None, Ok}
use Prim.Native.Nat.{ℕ, zero, suc, ◌+◌, ◌*◌, ◌≤◌, ◌<◌}
use native.Mathlib.Omega.{arith}
use mathlib.Core.Path.{◌≡◌, refl}
use mathlib.Core.Bool.{Bool, true, false}
use mathlib.Core.List.{List, [], ◌∷◌}
use lib.Dec.{ltb, leb}
use lib.ListN.{length}
use borrow.Author.Tests.{ltb-false, lt-leb}
use Rattle.octets.specs.Words.{pick}
use Rattle.order.specs.Order.{judged, completes}
use Rattle.order.specs.declared.Order.TheVariants.{SubmessageStart}
use Rattle.order.specs.declared.Judged.{Judged}
use Rattle.order.specs.declared.Judged.TheVariants.{Fits, Closes, Misplaced, NoGrid}
use Rattle.framing.specs.Framing.{read_at}
use Rattle.framing.specs.Listing.{Ending, listed_by, listing_from, listing}
use Rattle.framing.specs.declared.read.Section.{Section as Row}
use Rattle.framing.specs.Read.{Read}
use Rattle.framing.specs.Read.{Section, Over, Refused}
use Rattle.framing.proofs.Tests.{by_test}
use Rattle.index.specs.Lines.{line_of}
use Rattle.index.specs.declared.line.Line.{Line}
use Rattle.index.specs.declared.refusal.Refusal.TheVariants as refusal
use Rattle.index.specs.Bounds.{unlimited}
use Rattle.index.specs.declared.bounds.Room.{Room}
use Rattle.index.specs.Walk.{
  Reached,
  at_start,
  Judgement,
  stops,
  passes,
  fitted,
  closing,
  by_order,
  gone_on,
  judgement,
  Told,
  followed,
  walked_from,
  walked,
}
use Rattle.blindness.specs.Blindness.{CleanNeedsNoMore}
use Rattle.blindness.proofs.Walks.{is_clean}

-- a property of two choices by one test
by_both : {A B : Type 0} (P : A → B → Type 0) (t : Bool) {a b : A} {c d : B} → (t ≡ true → P a c) → (t ≡ false → P b d)
    → P (pick t a b) (pick t c d)
by_both P true then else = then refl
by_both P false then else = else refl

-- a section that is passed is passed with more room too, and counts stay under two numbers
abbrev Freed : ℕ → ℕ → Judgement → Judgement → Type 0
Freed sections lines (stops told why) j = Unit
Freed sections lines (passes told closed r) j = (j ≡ passes told closed r) × (r.sections ≤ sections) × (r.lines ≤ lines)

weaken : (sections lines lines' : ℕ) (j j' : Judgement) → lines ≤ lines' → Freed sections lines j j' → Freed sections lines' j j'
weaken sections lines lines' (stops told why) j' le free = tt
weaken sections lines lines' (passes told closed r) j' le free = (free.0, free.1, omega (arith, free.2))

module _ (room : Room) (s : Row) where
  free_order : (r : Reached) (told : List Line) (j : Judged) → r.sections < unlimited.rows → r.lines < unlimited.lines
      → Freed (r.sections + 1) (r.lines + 1) (by_order j room r s told) (by_order j unlimited r s told)
  unfolding by_order fitted closing
  free_order r told (Fits order) a b =
      by_test (λ (j : Judgement). Freed (r.sections + 1) (r.lines + 1) j (fitted unlimited r s told order))
      (leb room.rows r.sections) (λ _. tt) (λ _. (rw (lt-leb unlimited.rows r.sections a), omega arith, omega arith))
  free_order r told Closes a b =
      by_test P (leb room.rows r.sections) (λ _. tt) λ _.
      by_test P (leb room.lines r.lines) (λ _. tt) λ _.
      (rw (lt-leb unlimited.rows r.sections a, lt-leb unlimited.lines r.lines b), omega arith, omega arith)
    where
      P : Judgement → Type 0
      P j = Freed (r.sections + 1) (r.lines + 1) j (closing unlimited r s)
  free_order r told Misplaced a b = tt
  free_order r told NoGrid a b = tt

  free : (r : Reached) → r.sections < unlimited.rows → r.lines + 1 < unlimited.lines
      → Freed (r.sections + 1) (r.lines + 2) (judgement room r s) (judgement unlimited r s)
  unfolding judgement
  free r a b =
      by_both (Freed (r.sections + 1) (r.lines + 2)) (completes r.order s.number)
      (λ _. by_test (λ (j : Judgement). Freed (r.sections + 1) (r.lines + 2) j more) (leb room.lines r.lines) (λ _. tt)
      (λ _. rw (lt-leb unlimited.lines r.lines (omega arith))
      (weaken (r.sections + 1) (r.lines + 1 + 1) (r.lines + 2) here there (omega arith)
      (free_order (gone_on r) line (judged SubmessageStart s.number) a b))))
      (λ _. weaken (r.sections + 1) (r.lines + 1) (r.lines + 2) (by_order (judged r.order s.number) room r s [])
      (by_order (judged r.order s.number) unlimited r s []) (omega arith)
      (free_order r [] (judged r.order s.number) a (omega arith)))
    where
      line : List Line
      line = line_of r.force None ∷ []

      here : Judgement
      here = by_order (judged SubmessageStart s.number) room (gone_on r) s line

      there : Judgement
      there = by_order (judged SubmessageStart s.number) unlimited (gone_on r) s line

      more : Judgement
      more = pick (leb unlimited.lines r.lines) (stops [] refusal.SubmessageTableFull) there

module _ (room : Room) where
  free_from : (r : Reached) (sections : List Row) (ending : Ending) → r.sections + length sections < unlimited.rows
      → r.lines + 2 * length sections < unlimited.lines
      → (walked_from room r sections ending).outcome ≡ Ok tt
      → walked_from room r sections ending ≡ walked_from unlimited r sections ending
  unfolding walked_from
  free_from r [] ending a b h = refl
  free_from r (s ∷ more) ending a b h =
      go (judgement room r s) (judgement unlimited r s) (free room s r (omega arith) (omega arith)) h
      (λ reached. free_from reached more ending)
    where
      go : (j j' : Judgement) → Freed (r.sections + 1) (r.lines + 2) j j'
          → (followed r s j (λ reached. walked_from room reached more ending)).outcome ≡ Ok tt
          → ((reached : Reached) → reached.sections + length more < unlimited.rows → reached.lines + 2 * length more < unlimited.lines
          → (walked_from room reached more ending).outcome ≡ Ok tt
          → walked_from room reached more ending ≡ walked_from unlimited reached more ending)
          → followed r s j (λ reached. walked_from room reached more ending)
          ≡ followed r s j' (λ reached. walked_from unlimited reached more ending)
      go (stops told why) j' freed h' ih = absurd (is_clean h')
      go (passes told closed reached) j' freed h' ih =
          rw (freed.0, ih reached (omega (arith, freed.1)) (omega (arith, freed.2)) h')

-- no more sections are listed than reads are made
listed_few : (f : List ℕ) (n at rest : ℕ) → length (listing_from n f at rest).sections ≤ n
unfolding listing_from
listed_few f zero at rest = omega arith
listed_few f (suc n) at rest = go (read_at f at rest) (listed_few f n)
  where
    go : (read : Read) → ((a r : ℕ) → length (listing_from n f a r).sections ≤ n)
        → length (listed_by read (λ a r. listing_from n f a r)).sections ≤ suc n
    go (Section s next) ih = let p = ih next.at.0 next.rest in omega arith
    go Over ih = omega arith
    go (Refused fault offset) ih = omega arith

few : (f : List ℕ) → length (listing f).sections ≤ length f + 1
unfolding listing
few f = listed_few f (length f + 1) 0 0

pub clean_needs_no_more : CleanNeedsNoMore
unfolding walked
clean_needs_no_more room f =
    by_both (λ (a b : Told). a.outcome ≡ Ok tt → a ≡ b) (ltb 1099511627776 (length f)) (λ _ h. refl)
    λ e.
    let small = ltb-false 1099511627776 (length f) e in
    let count = few f in
    free_from room (at_start f) (listing f).sections (listing f).ending (omega arith) (omega arith)
