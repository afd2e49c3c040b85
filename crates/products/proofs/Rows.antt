-- The table says what the ranges say: one test, computed over all rows; and above the last row
-- every range is over.
use Rattle.std.specs.Prelude.{Option, Some, None}
use Prim.Native.Nat.{ℕ, ◌/◌, ◌%◌, ◌<◌}
use native.Mathlib.Omega.{arith}
use mathlib.Core.Path.{◌≡◌, refl, sym, ap, subst, ◌∙◌}
use mathlib.Core.Bool.{Bool, true, false, ◌&&◌}
use mathlib.Core.List.{List}
use lib.Dec.{T, eqb, eqb→eq, ltb}
use lib.ListN.{length, get_or, get_or-eq_default}
use mir.Facts.{and_yes}
use borrow.Author.Tests.{ltb-true, ltb-false, eq-eqb}
use Rattle.octets.specs.Words.{pick}
use Rattle.products.specs.Templates.{
  processes,
  process_index,
  times,
  time_index,
  surfaces,
  surfaces_index,
}
use Rattle.products.specs.Readings.{as_crate, by_reading, offsets_of}
use Rattle.products.specs.Rows.{no, none, column, columns, offsets_by, rows, TableIsTheRanges}
use Rattle.products.specs.Products.{
  supported_of,
  process_of,
  forecast_of,
  fixed_of,
  product_by,
  product_of,
}
use Rattle.products.specs.declared.templates.TemplateReading.{TemplateReading}
use Rattle.products.proofs.EachEntry.{every, at_each, inside_it}
use Rattle.products.proofs.Ranges.{past}

same : Option ℕ → Option ℕ → Bool
same (Some i) (Some j) = eqb i j
same (Some i) None = false
same None (Some j) = false
same None None = true

same_is : (a b : Option ℕ) → T (same a b) → a ≡ b
unfolding same
same_is (Some i) (Some j) t = ap Some (eqb→eq i j t)
same_is (Some i) None t = absurd t
same_is None (Some j) t = absurd t
same_is None None t = refl

-- a row's three columns are what the ranges say of its template
right : ℕ → ℕ → Bool
right n r =
    same (column (r % 256)) (process_index n)
    && (same (column (r / 256 % 256)) (time_index n) && same (column (r / 65536)) (surfaces_index n))

all_right : T (every right 0 rows)
unfolding right rows same column process_index processes time_index times surfaces_index surfaces
all_right = tt

so_many : length rows ≡ 1102
unfolding rows
so_many = refl

in_every_row : (n : ℕ) → n < 1102 → columns (get_or rows n none) ≡ as_crate n
unfolding right columns as_crate
in_every_row n inside =
    let within : n < length rows = omega (arith, so_many) in
    let r = get_or rows n 0 in
    let process = same (column (r % 256)) (process_index n) in
    let time = same (column (r / 256 % 256)) (time_index n) in
    let surface = same (column (r / 65536)) (surfaces_index n) in
    let all = and_yes process (time && surface) (at_each right rows all_right n within) in
    let others = and_yes time surface all.1 in
    let p = same_is (column (r % 256)) (process_index n) all.0 in
    let t = same_is (column (r / 256 % 256)) (time_index n) others.0 in
    let s = same_is (column (r / 65536)) (surfaces_index n) others.1 in
    rw (inside_it rows n none 0 within) (cc)

none_above : (n : ℕ) → 1101 < n → as_crate n ≡ columns none
unfolding columns column as_crate process_index processes time_index times surfaces_index surfaces
none_above n above =
    let p = past None 1102 n processes tt above in
    let t = past None 1102 n times tt above in
    let s = past None 1102 n surfaces tt above in
    cc

mark_is_none : (octet : ℕ) → column octet ≡ Some no → ⊥
unfolding column same
mark_is_none octet e = side (eqb octet no) refl e
  where
    side : (t : Bool) → eqb octet no ≡ t → pick t None (Some octet) ≡ Some no → ⊥
    side true d e = subst (λ (i : Option ℕ). T (same None i)) e tt
    side false d e = subst T (sym (eq-eqb octet no (cc)) ∙ d) tt

pub table_is_the_ranges : TableIsTheRanges
table_is_the_ranges =
    record {
      so_many = so_many;
      in_every_row = in_every_row;
      none_above = none_above;
      mark_is_none = mark_is_none;
    }

-- so lent to a lookup it says what the ranges say, of every number and by both readings
pub by_the_table : (reading : TemplateReading) (n : ℕ) → offsets_by rows reading n ≡ offsets_of reading n
unfolding offsets_by offsets_of
by_the_table reading n = ap (by_reading reading n) (side (ltb n 1102) refl)
  where
    side : (u : Bool) → ltb n 1102 ≡ u → columns (get_or rows n none) ≡ as_crate n
    side true e = in_every_row n (omega (arith, ltb-true))
    side false e =
        ap columns (get_or-eq_default rows none (omega (arith, so_many, ltb-false)))
        ∙ sym (none_above n (omega (arith, ltb-false)))

-- and a payload says by it what it says by the ranges
pub product_by_the_table : (reading : TemplateReading) (s : List ℕ)
    → product_by rows reading s ≡ product_of reading s
unfolding product_by product_of process_of forecast_of fixed_of
product_by_the_table reading s = by_template_lem (supported_of s) refl
  where
    by_template_lem : (t : Option ℕ) → supported_of s ≡ t
        → product_by rows reading s ≡ product_of reading s
    by_template_lem (Some n) e = rw (e, by_the_table reading n)
    by_template_lem None e = rw e
