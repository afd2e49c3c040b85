-- `put_number` meets its contract. The loop keeps `Kept`: the octets that are left, put, are the whole number put.
use Prim.Native.Nat.{ℕ, suc, ◌+◌, ◌-◌, ◌≤◌, ◌<◌, ◌/◌, ◌%◌}
use native.Mathlib.Omega.{arith}
use mathlib.Core.Path.{◌≡◌, refl, sym, ◌∙◌}
use mathlib.Core.List.{List}
use lib.ListN.{length, set, length-set}
use Rattle.writer.specs.Message.{digits}
use Rattle.writer.specs.Put.{written_at}
use Rattle.writer.proofs.Stored.{put_nothing, put_digit}
use Rattle.writer.proofs.put.put_number.Goals as goal
use Rattle.writer.proofs.put.put_number.Invariants.{Kept}

start : (dest : List ℕ) (at width number : ℕ) → Kept dest at width number dest width number
start dest at width number = record { long = refl; few = omega arith; same = refl }

module _ {dest : List ℕ} {at width number : ℕ} {d : List ℕ} {left value : ℕ} (k : Kept dest at width number d left value) where
  on : at + width ≤ length dest → 0 < left → Kept dest at width number (set d (at + (left - 1)) (value % 256)) (left - 1) (value / 256)
  on room some =
      let long = k.long in
      let few = k.few in
      let one_less : left ≡ suc (left - 1) = omega arith in
      record {
        long = simp length-set long;
        few = omega arith;
        same = put_digit d at (left - 1) value (omega arith) ∙ rw (← one_less) k.same;
      }

  ended : left ≤ 0 → d ≡ written_at dest at (digits width number)
  unfolding digits
  ended none =
      let zero_left : left ≡ 0 = omega arith in
      sym (put_nothing d at) ∙ (rw zero_left at k.same)

pub loop-left-init : goal.loop-left-init
loop-left-init c = start _ _ _ _

pub loop-left-preserved : goal.loop-left-preserved
loop-left-preserved c = on c.loop-left.invariant c.requires c.loop-left-test.true

pub shape_of-dest : goal.shape_of-dest
shape_of-dest c = c.loop-left.invariant.long

pub returns : goal.returns
returns c = ended c.loop-left.invariant c.loop-left-test.false
