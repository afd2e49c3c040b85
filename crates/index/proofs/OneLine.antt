-- A pinned line is determined by the sections told and the place of its section 7.
use Rattle.std.specs.Prelude.{Option, Some, None}
use Prim.Native.Nat.{ℕ, ◌+◌, ◌<◌}
use native.Mathlib.Omega.{arith}
use mathlib.Core.Path.{◌≡◌, refl, sym, ap, ap₂, ◌∙◌}
use mathlib.Core.Bool.{Bool, true, false}
use mathlib.Core.List.{List}
use lib.Dec.{ltb, eqb}
use lib.ListN.{length, get_or, take, drop}
use borrow.Author.Tests.{ltb-true, ltb-false, eqb-true, eqb-false}
use Rattle.octets.specs.Words.{Not}
use Rattle.octets.specs.BigEndian.{be_at}
use Rattle.framing.specs.declared.read.Offset.{Offset}
use Rattle.framing.specs.declared.read.Section.{Section}
use Rattle.order.specs.declared.Place.{Place}
use Rattle.index.specs.Lines.{place, unlisted}
use Rattle.index.specs.Pins.{told_at, ToldAt, LastBefore, LocalBefore, count_of, OneLine}

-- two places are one where their numbers are
same_place : (p q : Place) → p.0 ≡ q.0 → p ≡ q
same_place p q e = λ i. record { 0 = e i }

module _ (told : List Section) where
  one_last : {n from v p q : ℕ} → LastBefore told n from v p → LastBefore told n from v q → p ≡ q
  one_last {p = p} {q = q} a b =
      let before : Not (p < q) = λ less. a.last q less b.high b.there in
      let behind : Not (q < p) = λ less. b.last p less a.high a.there in
      omega arith

  one_local : (from v : ℕ) (local other : Option Place) → LocalBefore told from v local → LocalBefore told from v other → local ≡ other
  one_local from v (Some p) (Some q) a b = ap Some (same_place p q (one_last a b))
  one_local from v (Some p) None a none = absurd (none p.0 a.low a.high a.there)
  one_local from v None (Some q) none b = absurd (none q.0 b.low b.high b.there)
  one_local from v None None a b = refl

  -- a section of a number is told at a place, or not
  by_told : (n p : ℕ) (So : Type 0) → (ToldAt told n p → So) → (Not (ToldAt told n p) → So) → So
  by_told n p So there absent = inside (ltb p (length told)) refl
    where
      number : p < length told → (t : Bool) → eqb (get_or told p unlisted.section).number n ≡ t → So
      number low true e = there (low, eqb-true _ n e)
      number low false e = absent (λ so. eqb-false _ n e so.1)

      inside : (t : Bool) → ltb p (length told) ≡ t → So
      inside true e = number (ltb-true p (length told) e) (eqb (get_or told p unlisted.section).number n) refl
      inside false e = absent (λ so. let low = so.0 in omega (arith, ltb-false p (length told) e))

pub one_line : OneLine
one_line file told a b p q v = λ i.
    record {
      message = (p.message ∙ ap (λ (k : ℕ). count_of 0 (take k told)) start ∙ sym q.message) i;
      submessage = (p.submessage ∙ ap₂ (λ (k m : ℕ). count_of 7 (drop k (take m told))) start v ∙ sym q.submessage) i;
      indicator = same_place a.indicator b.indicator start i;
      identification = same_place a.identification b.identification (same p.identification q.identification) i;
      local = one_local told b.indicator.0 b.values.0 a.local b.local (rw (start, v) at p.local) q.local i;
      grid = same_place a.grid b.grid (same p.grid q.grid) i;
      product = same_place a.product b.product (same p.product q.product) i;
      representation = same_place a.representation b.representation (same p.representation q.representation) i;
      bitmap = same_place a.bitmap b.bitmap (same p.bitmap q.bitmap) i;
      values = same_place a.values b.values v i;
      end = end i;
      span = record { offset = offset i; total = total i };
    }
  where
    start : a.indicator.0 ≡ b.indicator.0
    start = one_last told (rw v at p.indicator) q.indicator

    same : {n x y : ℕ} → LastBefore told n a.indicator.0 a.values.0 x → LastBefore told n b.indicator.0 b.values.0 y → x ≡ y
    same l m = one_last told (rw (start, v) at l) m

    end : a.end ≡ b.end
    end =
        by_told told 8 (a.values.0 + 1) (a.end ≡ b.end)
        (λ there. p.closed there ∙ ap (λ (k : ℕ). Some (place (k + 1))) v ∙ sym (q.closed (rw v at there)))
        (λ absent. p.goes_on absent ∙ sym (q.goes_on (rw v at absent)))

    offset : a.span.offset ≡ b.span.offset
    offset = p.offset ∙ ap (λ (k : ℕ). (told_at told k).offset) start ∙ sym q.offset

    total : a.span.total ≡ b.span.total
    total = p.total ∙ ap (λ (o : Offset). be_at file (o.0 + 8) 8) offset ∙ sym q.total
