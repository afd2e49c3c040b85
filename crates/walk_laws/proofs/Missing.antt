-- How much is missing, and what more octets behind a file change: nothing that is told before.
use Prim.Native.Nat.{ℕ, ◌+◌, ◌-◌, ◌≤◌, ◌<◌}
use native.Mathlib.Omega.{arith}
use mathlib.Core.Path.{◌≡◌, refl, sym, ap, ◌∙◌}
use mathlib.Core.Bool.{Bool, true, false}
use mathlib.Core.List.{List, ◌++◌}
use mathlib.Core.Logic.{inl, inr}
use lib.Dec.{leb}
use lib.ListN.{length, get_or, length-append, get_or-append}
use borrow.Author.Tests.{leb-true, leb-false}
use Rattle.octets.specs.Words.{Not}
use Rattle.octets.specs.BigEndian.{be_at}
use Rattle.octets.proofs.Laws.{be_same}
use Rattle.framing.specs.LaidOut.{Spells, FirstGrib}
use Rattle.framing.specs.declared.read.Section.{Section}
use Rattle.index.specs.declared.bounds.Room.{Room}
use Rattle.walk_laws.specs.Rows.{FirstRow}
use Rattle.walk_laws.specs.ExactlyWhen.{left, EndCut, HeaderCut, LengthUnder5, NumberNot1To7, stated_end, PayloadCut, IndicatorCut, hand0, hand8, behind_header, CannotBeRead, WellRead, rows_after_read, Stand, Comes, started, goes_further, Given, too_long, unread, input_over, misjudged}
use Rattle.walk_laws.specs.Missing.{Lacks, OneIsMissing, EachOctetCounts, HowMuchIsMissing}
use Rattle.walk_laws.proofs.WholeWalk.{walk_refused_exactly_when}

-- the rows of refusal 2, one by one, with no row before them
data Cut (file : List ℕ) (at rest o m : ℕ) : Type 0 where
  end_cut : rest ≡ 4 → at < length file → o ≡ at → EndCut file at → m ≡ 4 - left file at → Cut file at rest o m
  header_cut : Not (rest ≡ 0) → Not (rest ≡ 4) → at < length file → o ≡ at → HeaderCut file at → m ≡ 5 - left file at
      → Cut file at rest o m
  payload_cut : Not (rest ≡ 0) → Not (rest ≡ 4) → at < length file → o ≡ at
      → Not (HeaderCut file at) → Not (LengthUnder5 file at) → Not (NumberNot1To7 file at)
      → PayloadCut file at → m ≡ stated_end file at - length file → Cut file at rest o m
  indicator_cut : Not (rest ≡ 0) → Not (rest ≡ 4) → at < length file → o ≡ at
      → Not (HeaderCut file at) → Not (LengthUnder5 file at) → Not (NumberNot1To7 file at)
      → IndicatorCut file at → m ≡ 1 → Cut file at rest o m

by_row : (file : List ℕ) (at rest o m : ℕ) → CannotBeRead file at rest 2 o m → Cut file at rest o m
by_row file at rest o m (hand0 z first (here, inl (h, e, f))) = absurd (omega arith)
by_row file at rest o m (hand0 z first (here, inr (_, inl (h, e, f)))) = absurd (omega arith)
by_row file at rest o m (hand0 z first (here, inr (_, inr (_, h)))) = absurd h
by_row file at rest o m (hand8 z i (here, inl (h, e, f))) = end_cut z i here h f
by_row file at rest o m (hand8 z i (here, inr (_, inl (h, e, f)))) = absurd (omega arith)
by_row file at rest o m (hand8 z i (here, inr (_, inr (_, h)))) = absurd h
by_row file at rest o m (behind_header a b i (here, inl (h, e, f))) = header_cut a b i here h f
by_row file at rest o m (behind_header a b i (here, inr (_, inl (h, e, f)))) = absurd (omega arith)
by_row file at rest o m (behind_header a b i (here, inr (_, inr (_, inl (h, e, f))))) = absurd (omega arith)
by_row file at rest o m (behind_header a b i (here, inr (no2, inr (no6, inr (no7, inl (h, e, f)))))) =
    payload_cut a b i here no2 no6 no7 h f
by_row file at rest o m (behind_header a b i (here, inr (no2, inr (no6, inr (no7, inr (_, inl (h, e, f))))))) =
    indicator_cut a b i here no2 no6 no7 h f
by_row file at rest o m (behind_header a b i (here, inr (_, inr (_, inr (_, inr (_, inr (_, inl (h, e, f)))))))) = absurd (omega arith)
by_row file at rest o m (behind_header a b i (here, inr (_, inr (_, inr (_, inr (_, inr (_, inr (_, inl (h, e, f))))))))) = absurd (omega arith)
by_row file at rest o m (behind_header a b i (here, inr (_, inr (_, inr (_, inr (_, inr (_, inr (_, inr (_, h))))))))) = absurd h

cut_inside : {file : List ℕ} {at rest o m : ℕ} → Cut file at rest o m → at < length file
cut_inside (end_cut z i here h f) = i
cut_inside (header_cut a b i here h f) = i
cut_inside (payload_cut a b i here no2 no6 no7 h f) = i
cut_inside (indicator_cut a b i here no2 no6 no7 h f) = i

some_missing : {file : List ℕ} {at rest o m : ℕ} → Cut file at rest o m → 1 ≤ m
some_missing (end_cut z i here h f) = omega (arith, h.1)
some_missing (header_cut a b i here h f) = omega (arith, h.1)
some_missing (payload_cut a b i here no2 no6 no7 h f) = omega (arith, h.2)
some_missing (indicator_cut a b i here no2 no6 no7 h f) = omega arith

-- what is not under 5 and not cut has a header in the file
headed : (n : ℕ) → 1 ≤ n → Not ((1 ≤ n) × (n ≤ 4)) → 5 ≤ n
headed n some other = go (leb n 4) refl
  where
    go : (t : Bool) → leb n 4 ≡ t → 5 ≤ n
    go true e = absurd (other (some, leb-true n 4 e))
    go false e = leb-false n 4 e

-- a section starts at the place of its read, or behind it
from_there : (file : List ℕ) (at rest rest' : ℕ) (s : Section) → WellRead file at rest s rest' → at ≤ s.offset.0
from_there file at rest rest' s (hand0 z first (here, _, _)) = let e = ap (λ (s : Section). s.offset.0) here in omega (arith, first.0)
from_there file at rest rest' s (hand8 z i (here, _, _)) = let e = ap (λ (s : Section). s.offset.0) here in omega arith
from_there file at rest rest' s (behind_header a b i (here, _, _)) = let e = ap (λ (s : Section). s.offset.0) here in omega arith

module _ (file more : List ℕ) where
  abbrev longer : List ℕ
  longer = file ++ more

  long : length longer ≡ length file + length more
  long = length-append file more

  same_octet : (i : ℕ) → i < length file → get_or longer i 0 ≡ get_or file i 0
  same_octet i h = get_or-append file more 0 i h

  same_number : (at width : ℕ) → at + width ≤ length file → be_at longer at width ≡ be_at file at width
  same_number at width h = be_same longer file at at width (λ i below. same_octet (at + i) (omega arith))

  spells_there : (at a b c d : ℕ) → at + 4 ≤ length file → Spells file at a b c d → Spells longer at a b c d
  spells_there at a b c d h (p, q, r, t) =
      (same_octet at (omega arith) ∙ p, same_octet (at + 1) (omega arith) ∙ q, same_octet (at + 2) (omega arith) ∙ r, same_octet (at + 3) (omega arith) ∙ t)

  spells_back : (at a b c d : ℕ) → at + 4 ≤ length file → Spells longer at a b c d → Spells file at a b c d
  spells_back at a b c d h (p, q, r, t) = (
    sym (same_octet at (omega arith)) ∙ p,
    sym (same_octet (at + 1) (omega arith)) ∙ q,
    sym (same_octet (at + 2) (omega arith)) ∙ r,
    sym (same_octet (at + 3) (omega arith)) ∙ t,
  )

  -- the first start is the first one still
  first_there : (at g : ℕ) → FirstGrib file at g → FirstGrib longer at g
  first_there at g (from, (room, letters), none) =
      let n = long in (
        from,
        (omega arith, spells_there g 71 82 73 66 (omega arith) letters),
        λ k after below there. none k after below (omega arith, spells_back k 71 82 73 66 (omega arith) there.1),
      )

  -- a section that is well read, whole in the file, is so still
  well_there : (at rest rest' : ℕ) (s : Section) → WellRead file at rest s rest' → s.offset.0 + s.length ≤ length file
      → WellRead longer at rest s rest'
  well_there at rest rest' s (hand0 {g} z first so) whole =
      let room = first.1.0 in
      hand0 z (first_there at g first) (rw (same_octet (g + 7) (omega arith), same_number (g + 8) 8 (omega arith)) so)
  well_there at rest rest' s (hand8 z i (here, behind, (no2, (no5, _)))) whole =
      let n = long in
      let o = ap (λ (s : Section). s.offset.0) here in
      let l = ap (λ (s : Section). s.length) here in
      hand8 z (omega arith) (
        here,
        behind,
        (
          (λ h. omega (arith, h.1)),
          ((λ other. no5 (λ there. other (spells_there at 55 55 55 55 (omega arith) there))), tt),
        ),
      )
  well_there at rest rest' s (behind_header a b i (here, behind, (no2, (no6, (no7, (no2', (no2'', (no8, (no9, _))))))))) whole =
      let n = long in
      let o = ap (λ (s : Section). s.offset.0) here in
      let l = ap (λ (s : Section). s.length) here in
      let room = headed (left file at) (omega arith) no2 in
      behind_header a b (omega arith)
      (rw (same_number at 4 (omega arith), same_octet (at + 4) (omega arith)) (
        here,
        behind,
        (
          (λ h. omega (arith, h.1)),
          (
            no6,
            (
              no7,
              (
                (λ h. omega (arith, h.2)),
                ((λ h. no8 (rw (h.0, h.1) (omega arith))), (no8, (no9, tt))),
              ),
            ),
          ),
        ),
      ))

  -- fewer octets than are missing: that many fewer are
  cut_there : (at rest o m : ℕ) → Cut file at rest o m → length more < m → CannotBeRead longer at rest 2 o (m - length more)
  cut_there at rest o m (end_cut z i here h f) few =
      let n = long in hand8 z (omega arith) (here, inl ((omega (arith, h.0), omega arith), refl, omega arith))
  cut_there at rest o m (header_cut a b i here h f) few =
      let n = long in behind_header a b (omega arith) (here, inl ((omega (arith, h.0), omega arith), refl, omega arith))
  cut_there at rest o m (payload_cut a b i here no2 no6 no7 h f) few =
      let n = long in
      let room = headed (left file at) (omega arith) no2 in
      behind_header a b (omega arith)
      (rw (same_number at 4 (omega arith), same_octet (at + 4) (omega arith))
      (here, inr ((λ c. omega (arith, c.1)), inr (no6, inr (no7, inl ((h.0, h.1, omega arith), refl, omega arith))))))
  cut_there at rest o m (indicator_cut a b i here no2 no6 no7 h f) few =
      let n = long in
      let room = headed (left file at) (omega arith) no2 in
      behind_header a b (omega arith)
      (rw (same_number at 4 (omega arith), same_octet (at + 4) (omega arith)) (
        here,
        inr (
          (λ c. omega (arith, c.1)),
          inr (
            no6,
            inr (
              no7,
              inr ((λ c. omega (arith, c.2, h.2)), inl ((h.0, h.1, omega (arith, h.2)), refl, omega arith)),
            ),
          ),
        ),
      ))

  -- the walk comes to the same stands in the file
  comes_there : {room : Room} {b : Stand} → Comes room file b → b.at ≤ length file → Comes room longer b
  comes_there started inside = started
  comes_there (goes_further {b} {s} {rest'} c well none) inside =
      let from = from_there file b.at b.rest rest' s well in
      goes_further (comes_there c (omega arith)) (well_there b.at b.rest rest' s well inside) none

-- a section that is well read is refused with 11 and more
from_11 : (room : Room) (b : Stand) (number n d : ℕ) → FirstRow (rows_after_read room b number) n d → 11 ≤ n
from_11 room b number n d (inl (h, e, f)) = omega arith
from_11 room b number n d (inr (_, inl (h, e, f))) = omega arith
from_11 room b number n d (inr (_, inr (_, inl (h, e, f)))) = omega arith
from_11 room b number n d (inr (_, inr (_, inr (_, inl (h, e, f))))) = omega arith
from_11 room b number n d (inr (_, inr (_, inr (_, inr (_, inl (h, e, f)))))) = omega arith
from_11 room b number n d (inr (_, inr (_, inr (_, inr (_, inr (_, h)))))) = absurd h

-- a file that is refused with 2, and where
record CutAt (room : Room) (file : List ℕ) (p o m : ℕ) : Type 0 where
  stand : Stand
  comes : Comes room file stand
  place : p ≡ stand.sections
  cut : Cut file stand.at stand.rest o m

cut_at : (room : Room) (file : List ℕ) (n p o m : ℕ) → n ≡ 2 → Given room file n p o m → CutAt room file p o m
cut_at room file _ _ _ _ two (too_long long) = absurd (omega arith)
cut_at room file n _ o m two (unread {b} short c u) =
    record { stand = b; comes = c; place = refl; cut = by_row file b.at b.rest o m (rw two at u) }
cut_at room file _ _ _ _ two (input_over short c none other last) = absurd (omega arith)
cut_at room file n _ _ m two (misjudged {b} {s} short c well row) =
    let k = from_11 room b s.number n m row in absurd (omega arith)

lacking : (room : Room) (file : List ℕ) (p o m : ℕ) → Lacks room file p o m → CutAt room file p o m
lacking room file p o m lacks =
    cut_at room file 2 p o m refl ((walk_refused_exactly_when room file 2 p o m (λ z. omega arith)).0 lacks)

pub one_is_missing : OneIsMissing
one_is_missing room file p o m lacks = some_missing (lacking room file p o m lacks).cut

pub each_octet_counts : EachOctetCounts
each_octet_counts room file more p o m lacks few short =
    let k = lacking room file p o m lacks in
    let b = k.stand in
    let comes = comes_there file more k.comes (omega (arith, cut_inside k.cut)) in
    let cut = cut_there file more b.at b.rest o m k.cut few in
    (walk_refused_exactly_when room (file ++ more) 2 p o (m - length more) (λ z. omega arith)).1
    (rw k.place (unread short comes cut))

pub how_much_is_missing : HowMuchIsMissing
how_much_is_missing = record { one_at_least = one_is_missing; each_counts = each_octet_counts }
