-- Where a line's message stands: its section 0 is told where "GRIB" stands, and from there to a section 8 each section takes its length
-- from what the total length says is to come.
use Rattle.std.specs.Prelude.{Option, Some, None}
use Prim.Native.Nat.{ℕ, zero, suc, ◌+◌, ◌<◌}
use native.Mathlib.Omega.{arith}
use mathlib.Core.Path.{◌≡◌, refl, sym, ap, ◌∙◌}
use mathlib.Core.Bool.{Bool, true, false}
use mathlib.Core.List.{List, [], ◌∷◌}
use lib.Dec.{eqb}
use borrow.Author.Tests.{eqb-true, eqb-false}
use Rattle.octets.specs.Words.{Not}
use Rattle.framing.specs.LaidOut.{HasGrib, section_of, LaidOut, nothing_more, indicator_next, end_next, headed_next}
use Rattle.framing.specs.declared.read.Section.{Section}
use Rattle.order.specs.declared.Place.{Place}
use Rattle.index.specs.declared.line.Line.{Line}
use Rattle.index.specs.Walk.{walked}
use Rattle.index.specs.Pins.{told_at, ToldAt, PinnedLine}
use Rattle.index.proofs.Rows.{rows_are_laid_out}
use Rattle.index.proofs.Pins.{lines_are_pinned}
use Rattle.index.proofs.Counted.{apart}
use Rattle.walk_laws.specs.ExactlyWhen.{total}
use Rattle.walk_laws.specs.Laws.{closings}
use Rattle.walk_laws.specs.Spans.{CarriesItsMessage, LinesCarryTheirMessage, EndsItsMessage, ClosingLinesEnd, WhereMessagesStand}
use Rattle.walk_laws.proofs.Counts.{every_map}

module _ (file : List ℕ) where
  -- where a section 8 is told with no section 0 before it, it ends where the rest of the message ends
  to_end : {at rest : ℕ} (l : List Section) → LaidOut file at rest l → (k : ℕ) → ToldAt l 8 k
      → ((i : ℕ) → i < k → Not (ToldAt l 0 i)) → (told_at l k).offset.0 + 4 ≡ at + rest
  to_end _ nothing_more k (inside, number) none = absurd (omega arith)
  to_end _ (indicator_next first stated later) zero (inside, number) none = absurd (omega arith)
  to_end _ (end_next sevens later) zero there none = refl
  to_end _ (headed_next some other (low, high) within taken later) zero (inside, number) none = absurd (omega arith)
  to_end _ (indicator_next first stated later) (suc k) there none = absurd (none 0 (omega arith) (omega arith, refl))
  to_end _ (end_next sevens later) (suc k) (inside, number) none =
      let end = to_end _ later k (omega arith, number) (λ i below (low, zeroth). none (suc i) (omega arith) (omega arith, zeroth)) in
      omega arith
  to_end _ (headed_next some other stated within taken later) (suc k) (inside, number) none =
      let end = to_end _ later k (omega arith, number) (λ i below (low, zeroth). none (suc i) (omega arith) (omega arith, zeroth)) in
      omega arith

  -- a message starts at a place of the list: "GRIB" stands there, and a section 8 with no other section 0 before it ends the message
  record Starts (l : List Section) (z : ℕ) : Type 0 where
    grib : HasGrib file (told_at l z).offset.0
    zeroth : told_at l z ≡ section_of 0 (told_at l z).offset.0 16
    ends : (k : ℕ) → z < k → ToldAt l 8 k → ((i : ℕ) → z < i → i < k → Not (ToldAt l 0 i))
        → (told_at l k).offset.0 + 4 ≡ (told_at l z).offset.0 + total file (told_at l z).offset.0

  -- with a section before
  one_later : (s : Section) (l : List Section) (z : ℕ) → Starts l z → Starts (s ∷ l) (suc z)
  one_later s l z starts = record { grib = starts.grib; zeroth = starts.zeroth; ends = ends }
    where
      ends : (k : ℕ) → suc z < k → ToldAt (s ∷ l) 8 k → ((i : ℕ) → suc z < i → i < k → Not (ToldAt (s ∷ l) 0 i))
          → (told_at (s ∷ l) k).offset.0 + 4 ≡ (told_at l z).offset.0 + total file (told_at l z).offset.0
      ends zero behind there none = absurd (omega arith)
      ends (suc k) behind (inside, number) none =
          starts.ends k (omega arith) (omega arith, number)
          (λ i above below (low, zeroth). none (suc i) (omega arith) (omega arith) (omega arith, zeroth))

  -- and where it is the first
  first_starts : {g rest : ℕ} (more : List Section) → HasGrib file g → 16 + rest ≡ total file g → LaidOut file (g + 16) rest more
      → Starts (section_of 0 g 16 ∷ more) 0
  first_starts {g} more grib stated later = record { grib = grib; zeroth = refl; ends = ends }
    where
      ends : (k : ℕ) → 0 < k → ToldAt (section_of 0 g 16 ∷ more) 8 k
          → ((i : ℕ) → 0 < i → i < k → Not (ToldAt (section_of 0 g 16 ∷ more) 0 i))
          → (told_at (section_of 0 g 16 ∷ more) k).offset.0 + 4 ≡ g + total file g
      ends zero behind there none = absurd (omega arith)
      ends (suc k) behind (inside, number) none =
          let end = to_end more later k (omega arith, number)
          (λ i below (low, zeroth). none (suc i) (omega arith) (omega arith) (omega arith, zeroth)) in
          omega arith

  -- so it does wherever a section 0 is told
  starts_there : {at rest : ℕ} (l : List Section) → LaidOut file at rest l → (z : ℕ) → ToldAt l 0 z → Starts l z
  starts_there _ nothing_more z (inside, number) = absurd (omega arith)
  starts_there _ (indicator_next first stated later) zero there = first_starts _ first.1 stated later
  starts_there _ (end_next sevens later) zero (inside, number) = absurd (omega arith)
  starts_there _ (headed_next some other (low, high) within taken later) zero (inside, number) = absurd (omega arith)
  starts_there _ (indicator_next first stated later) (suc z) (inside, number) =
      one_later _ _ z (starts_there _ later z (omega arith, number))
  starts_there _ (end_next sevens later) (suc z) (inside, number) = one_later _ _ z (starts_there _ later z (omega arith, number))
  starts_there _ (headed_next some other stated within taken later) (suc z) (inside, number) =
      one_later _ _ z (starts_there _ later z (omega arith, number))

-- where the number is that of a section 8, one is told
told_8 : (l : List Section) (k : ℕ) → (told_at l k).number ≡ 8 → ToldAt l 8 k
told_8 [] k number = absurd (omega arith)
told_8 (s ∷ l) zero number = (omega arith, number)
told_8 (s ∷ l) (suc k) number = let there = (told_8 l k number).0 in (omega arith, number)

-- the place at which a message is closed
abbrev closed_place : Option Place → ℕ
closed_place None = 0
closed_place (Some p) = p.0

module _ (file : List ℕ) (told : List Section) (laid : LaidOut file 0 0 told) (line : Line) (pins : PinnedLine file told line) where
  -- its message starts at its section 0
  starts : Starts file told line.indicator.0
  starts = starts_there file told laid line.indicator.0 pins.indicator.there

  -- which stands at the offset, and states the total length, that the line carries
  carries : CarriesItsMessage file told line
  carries =
      record {
        grib = rw pins.offset starts.grib;
        zeroth = rw pins.offset starts.zeroth;
        stated = pins.total;
      }

  -- a line that is closed is closed by the section 8 right behind its section 7
  right_behind : (p : Place) → line.end ≡ Some p → ToldAt told 8 (line.values.0 + 1) × (p.0 ≡ line.values.0 + 1)
  right_behind p e = go (eqb (told_at told (line.values.0 + 1)).number 8) refl
    where
      go : (t : Bool) → eqb (told_at told (line.values.0 + 1)).number 8 ≡ t
          → ToldAt told 8 (line.values.0 + 1) × (p.0 ≡ line.values.0 + 1)
      go true is-8 =
          let there = told_8 told (line.values.0 + 1) (eqb-true _ 8 is-8) in
          (there, ap closed_place (sym e ∙ pins.closed there))
      go false other =
          let never : ◌≡◌ {A = ℕ} 1 0 = ap closings (sym e ∙ pins.goes_on (λ there. eqb-false _ 8 other there.1)) in
          absurd (omega arith)

  -- between its section 0 and that one no other section 0 is told
  alone : (i : ℕ) → line.indicator.0 < i → i < line.values.0 + 1 → Not (ToldAt told 0 i)
  alone i above below there =
      let other = apart told there pins.values (λ e. omega arith) in
      pins.indicator.last i above (omega arith) there

  -- and so that one ends the message
  ends_it : EndsItsMessage told line
  ends_it p e =
      let (there, behind) = right_behind p e in
      let before = pins.indicator.high in
      rw (behind, pins.total, pins.offset) (there, starts.ends (line.values.0 + 1) (omega arith) there alone)

pub lines_carry_their_message : LinesCarryTheirMessage
lines_carry_their_message room file =
    let t = walked room file in
    every_map t.lines (carries file t.sections (rows_are_laid_out room file)) (lines_are_pinned room file)

pub closing_lines_end : ClosingLinesEnd
closing_lines_end room file =
    let t = walked room file in
    every_map t.lines (ends_it file t.sections (rows_are_laid_out room file)) (lines_are_pinned room file)

pub where_messages_stand : WhereMessagesStand
where_messages_stand = record { carry = lines_carry_their_message; end = closing_lines_end }
