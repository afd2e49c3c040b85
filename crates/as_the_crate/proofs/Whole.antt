-- On a whole file, the crate's streams tell what the walk tells down the crate's listing; that ends in an overflow, or is the walk.
use Rattle.std.specs.Prelude.{None}
use Prim.Native.Nat.{ℕ, suc, ◌+◌, ◌*◌, ◌≤◌}
use native.Mathlib.Omega.{arith}
use mathlib.Core.Path.{◌≡◌, refl, sym, ap, subst, ◌∙◌}
use mathlib.Core.List.{List, [], ◌∷◌}
use mathlib.Core.Logic.{◌⊎◌, inl, inr}
use lib.ListN.{length}
use borrow.Author.Tests.{le-ltb}
use Rattle.octets.specs.Words.{Not}
use Rattle.framing.specs.Listing.{listing}
use Rattle.framing.specs.declared.read.Section.{Section}
use Rattle.index.specs.Lines.{place, span}
use Rattle.index.specs.Bounds.{unlimited}
use Rattle.index.specs.declared.bounds.Room.{Room}
use Rattle.index.specs.Walk.{Told, at_start, walked}
use Rattle.as_the_crate.specs.Std.{SectionInfo}
use Rattle.as_the_crate.specs.Reader.{Grib2SectionStream-next}
use Rattle.as_the_crate.specs.Parser.{Keeping, positions, infos, Collected, overflow}
use Rattle.as_the_crate.specs.Told.{streamed, the_rust, the_public_rust}
use Rattle.as_the_crate.specs.Equal.{IsFile, RustOverflows, passed_at}
use Rattle.as_the_crate.specs.Overflow.{LeavesUsize}
use Rattle.as_the_crate.proofs.Words.{infos_of, word_of, in_words}
use Rattle.as_the_crate.proofs.OneSection.{stream}
use Rattle.as_the_crate.proofs.Stream.{crate_listing, stream_yields, few, fewer}
use Rattle.as_the_crate.proofs.Submessages.{places, between, nothing_kept, Seen, submessages}
use Rattle.as_the_crate.proofs.DownItsListing.{overflow-or-same}
use Rattle.as_the_crate.proofs.Tables.{freely_from, in_tables, few_told}

-- the walk with no table in mind, and the walk down the crate's listing
abbrev pub free : List ℕ → Told
free file = freely_from (at_start file) (listing file).sections (listing file).ending

abbrev pub crate_free : List ℕ → Told
crate_free file = freely_from (at_start file) (crate_listing (length file + 1) file 0 0).sections (crate_listing (length file + 1) file 0 0).ending

-- any tables that hold what is told
pub held : (file : List ℕ) (room : Room) → length file ≤ 1099511627776 → length (free file).sections ≤ room.rows
    → length (free file).lines ≤ room.lines → walked room file ≡ free file
unfolding walked
held file room most rows lines =
    rw (le-ltb 1099511627776 (length file) most)
    (in_tables (listing file).sections (listing file).ending (at_start file) room (omega arith) (omega arith))

pub unlimited_held : (file : List ℕ) → length file ≤ 1099511627776 → walked unlimited file ≡ free file
unfolding listing
unlimited_held file most =
    let short = few (length file + 1) file 0 0 in
    let told = few_told (listing file).sections (listing file).ending (at_start file) in
    let a = told.0 in
    let b = told.1 in
    held file unlimited most (omega arith) (omega arith)

-- either of the crate's streams is the walk down the crate's listing
down_its_listing : {K : Type 0} (κ : Keeping K) (look : ℕ → K) (file : List ℕ) → IsFile file
    → Seen κ look 0 (crate_free file).sections → streamed κ file ≡ in_words κ look (crate_free file)
unfolding streamed
down_its_listing κ look file is seen =
    let most = is.most in
    let turns = length file + 1 in
    let L = crate_listing turns file 0 0 in
    let short = fewer turns file 0 0 in
    let told = few_told L.sections L.ending (at_start file) in
    let a = told.0 in
    let b = told.1 in
    let one = in_tables L.sections L.ending (at_start file) unlimited (omega arith) (omega arith) in
    submessages κ look (Grib2SectionStream-next file) unlimited L.sections L.ending (stream 0 0)
    (stream_yields turns file 0 0 most is.octets (omega arith)) between (places 0 0 None 0 0 0 0 0) (nothing_kept κ look) (2 * turns + 2)
    (record {
      file = file;
      sections = 0;
      lines = 0;
      last = record { place = place 0; section = record { number = 0; offset = record { 0 = 0 }; length = 0 } };
      message = 0;
      submessage = 0;
      span = span (record { 0 = 0 }) 0;
    })
    (omega arith) (subst (λ (t : Told). Seen κ look 0 t.sections) (sym one) seen) (omega arith) (omega arith) (omega arith)
    ∙ ap (in_words κ look) one

-- with places, a look at a place is the place
every_place_lem : (n : ℕ) (ss : List Section) → Seen positions (λ k. k) n ss
every_place_lem n [] = tt
every_place_lem n (s ∷ ss) = (refl, every_place_lem (n + 1) ss)

pub with_places_lem : (file : List ℕ) → IsFile file → the_rust file ≡ in_words positions (λ k. k) (crate_free file)
with_places_lem file is = down_its_listing positions (λ k. k) file is (every_place_lem 0 (crate_free file).sections)

-- with sections, it is the section there
every_section : (n : ℕ) (ss : List Section) (look : ℕ → SectionInfo) → ((k : ℕ) → look (n + k) ≡ passed_at (infos_of ss) k)
    → Seen infos look n ss
every_section n [] look is = tt
every_section n (s ∷ ss) look is = (
  sym (ap look (let e : n ≡ n + 0 = omega arith in e) ∙ is 0),
  every_section (n + 1) ss look (λ k. ap look (let e : n + 1 + k ≡ n + suc k = omega arith in e) ∙ is (suc k)),
)

pub with_sections : (file : List ℕ) → IsFile file
    → the_public_rust file ≡ in_words infos (passed_at (infos_of (crate_free file).sections)) (crate_free file)
with_sections file is =
    let look = passed_at (infos_of (crate_free file).sections) in
    down_its_listing infos look file is
    (every_section 0 (crate_free file).sections look (λ k. ap look (let e : 0 + k ≡ k = omega arith in e)))

-- which ends in an overflow, and the walk leads there, or is the walk
abbrev pub Which : List ℕ → Type 0
Which file =
    ((word_of (crate_free file).outcome ≡ overflow) × LeavesUsize file 0 0 (at_start file))
    ⊎ (Not (word_of (crate_free file).outcome ≡ overflow) × Not (LeavesUsize file 0 0 (at_start file)) × (crate_free file ≡ free file))

pub which : (file : List ℕ) → length file ≤ 1099511627776 → Which file
unfolding listing
which file most = overflow-or-same file (length file + 1) 0 0 (at_start file) (omega arith) (omega arith) (omega arith)

pub its_end : (file : List ℕ) → IsFile file → (the_rust file).end ≡ word_of (crate_free file).outcome
its_end file is = ap (λ (c : Collected ℕ). c.end) (with_places_lem file is)

-- where the crate does not overflow, it tells what the walk tells
pub in_its_words : (file : List ℕ) → IsFile file → Not (RustOverflows file) → the_rust file ≡ in_words positions (λ k. k) (walked unlimited file)
in_its_words file is no_overflow = go (which file is.most)
  where
    go : Which file → the_rust file ≡ in_words positions (λ k. k) (walked unlimited file)
    go (inl (word, leads)) = absurd (no_overflow (its_end file is ∙ word))
    go (inr (word, none, one)) =
        with_places_lem file is ∙ ap (in_words positions (λ k. k)) (one ∙ sym (unlimited_held file is.most))
