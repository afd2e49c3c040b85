-- `total_of` meets its contract. The loop keeps `Summed`: the sum so far, and what is left, are the whole.
use Rattle.std.specs.Prelude.{Ok}
use Prim.Native.Nat.{ℕ, ◌+◌, ◌*◌, ◌/◌, ◌≤◌, ◌<◌}
use native.Mathlib.Omega.{arith}
use mathlib.Core.Path.{◌≡◌}
use mathlib.Core.Bool.{false}
use mathlib.Core.List.{List}
use lib.ListN.{length, drop, get_or}
use Rattle.writer.specs.Plan.{parts_of, is_wrong_size, first_at, sections_size, total_of}
use Rattle.writer.proofs.Parts.{part_at, next_row, no_row, count_parts}
use Rattle.writer.proofs.Checks.{first_passed, not_long}
use Rattle.writer.proofs.plan.total_of.Goals as goal
use Rattle.writer.proofs.plan.total_of.Invariants.{Summed}

module _ {plan : List ℕ} {total at : ℕ} (k : Summed plan total at) where
  module _ (more : at < length plan / 3) where
    here : (is_wrong_size (part_at plan (at * 3)) ≡ false) × (first_at is_wrong_size (at + 1) (parts_of (drop ((at + 1) * 3) plan)) ≡ Ok tt)
    here =
        first_passed is_wrong_size at (part_at plan (at * 3)) (parts_of (drop ((at + 1) * 3) plan))
        (rw (next_row plan at more) at k.sized)

    small : get_or plan (at * 3 + 2) 0 ≤ 4294967290
    small = not_long (part_at plan (at * 3)) here.0

    on : Summed plan (total + (get_or plan (at * 3 + 2) 0 + 5)) (at + 1)
    unfolding sections_size
    on =
        let octets = small in
        let most = k.most in
        let sum : total + (get_or plan (at * 3 + 2) 0 + 5 + sections_size (parts_of (drop ((at + 1) * 3) plan))) ≡ total_of (parts_of plan) =
        rw (next_row plan at more) at k.same in
        record { most = omega arith; sized = here.1; same = omega arith }

  ended : length plan / 3 ≤ at → total ≡ total_of (parts_of plan)
  unfolding sections_size
  ended over = let sum = rw (no_row plan at over) at k.same in omega arith

pub loop-place-init : goal.loop-place-init
loop-place-init c = record { most = omega arith; sized = c.requires.1; same = omega arith }

pub overflow_add-total-in-loop-place-2 : goal.overflow_add-total-in-loop-place-2
overflow_add-total-in-loop-place-2 c = let octets = small c.loop-place.invariant c.loop-place-test.true in omega arith

pub overflow_add-total-in-loop-place-3 : goal.overflow_add-total-in-loop-place-3
overflow_add-total-in-loop-place-3 c =
    let kept = c.loop-place.invariant in
    let octets = small kept c.loop-place-test.true in
    let few = c.requires.0 in
    let count = count_parts c.args.plan.now in
    omega (arith, kept.most)

pub loop-place-preserved : goal.loop-place-preserved
loop-place-preserved c = on c.loop-place.invariant c.loop-place-test.true

pub returns : goal.returns
returns c = ended c.loop-place.invariant c.loop-place-test.false
