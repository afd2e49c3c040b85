-- `octets::big_endian` meets its contract. The invariant: the sum is the number of the octets passed.
use mathlib.Core.Path.{◌≡◌, refl, ap, sym, ◌∙◌}
use Prim.Native.Nat.{ℕ, ◌+◌, ◌*◌}
use mathlib.Core.List.{List}
use native.Mathlib.Nat.{zero-add}
use native.Mathlib.Omega.{arith}
use lib.ListN.{length, get_or}
use Rattle.octets.specs.BigEndian.{be_at}
use Rattle.octets.proofs.Laws.{be_more, be_lt, be_below}
use Rattle.octets.proofs.big_endian.Goals as goal

-- one octet more at the end of the first i
more : (s : List ℕ) (sum w i : ℕ) → sum ≡ be_at s 0 i → w ≡ get_or s i 0 → sum * 256 + w ≡ be_at s 0 (i + 1)
more s sum w i e f = rw (e, f) (sym (be_more s 0 i ∙ ap (λ (j : ℕ). be_at s 0 i * 256 + get_or s j 0) (zero-add i)))

pub loop-octet-init : goal.loop-octet-init
unfolding be_at
loop-octet-init c = refl

pub overflow_mul-sum : goal.overflow_mul-sum
overflow_mul-sum c = omega (arith, be_below c.args.s.now 0 c.loop-octet.octet-index 7 c.type_inv.s (omega arith))

pub overflow_add-sum : goal.overflow_add-sum
overflow_add-sum c =
    omega (
      arith,
      be_below c.args.s.now 0 c.loop-octet.octet-index 7 c.type_inv.s (omega arith),
      c.type_inv.s c.loop-octet.octet-index,
    )

pub loop-octet-preserved : goal.loop-octet-preserved
loop-octet-preserved c = more _ _ _ _ c.loop-octet.invariant c.wide.ensures

pub returns : goal.returns
returns c =
    let s = c.args.s.now in
    let all : c.loop-octet.octet-index ≡ length s = omega arith in
    let number = c.loop-octet.invariant ∙ ap (be_at s 0) all in
    (number, rw number (be_lt s 0 c.type_inv.s (length s)))
