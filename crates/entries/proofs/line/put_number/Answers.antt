-- `put_number` meets its contract. The loop keeps `Kept`: the digits that are left, before those that are put, are the number's.
use Prim.Native.Nat.{ℕ, ◌+◌, ◌-◌, ◌≤◌, ◌<◌, ◌/◌, ◌%◌, ◌^◌}
use native.Mathlib.Omega.{arith}
use mathlib.Core.Path.{◌≡◌, sym, ap, subst, ◌∙◌}
use mathlib.Core.List.{List, [], ◌∷◌, ◌++◌, append_assoc, append-nil}
use lib.ListN.{length, set, length-append}
use Rattle.entries.specs.Decimal.{decimal}
use Rattle.entries.specs.Put.{RoomFor, PutBefore}
use Rattle.entries.proofs.Decimal.{decimal_digit, decimal_more, decimal_length, decimal_spells, spelling_length}
use Rattle.entries.proofs.Put.{put_nothing, put_front}
use Rattle.entries.proofs.line.put_number.Goals as goal
use Rattle.entries.proofs.line.put_number.Invariants.{Kept}

start : (dest : List ℕ) (end number : ℕ) → number < 10 ^ 20 → RoomFor 20 end dest → Kept dest end number dest end number
start dest end number small room =
    record {
      done = [];
      small = small;
      room = omega (arith, decimal_length 19 number small small, room.0);
      within = room.1;
      all = append-nil (decimal number);
      put = put_nothing end dest;
    }

module _ {dest : List ℕ} {end number : ℕ} {d : List ℕ} {at left : ℕ} (k : Kept dest end number d at left) where
  -- there is room for a digit
  some : 0 < at
  some = omega (arith, spelling_length (decimal_spells left k.small), k.room)

  on : 10 ≤ left → Kept dest end number (set d (at - 1) (48 + left % 10)) (at - 1) (left / 10)
  on high =
      let more = decimal_more left high k.small in
      let room = k.room in
      let longer : length (decimal left) ≡ length (decimal (left / 10)) + 1 =
      ap length more ∙ length-append (decimal (left / 10)) ((48 + left % 10) ∷ []) in
      record {
        done = (48 + left % 10) ∷ k.done;
        small = omega (arith, k.small);
        room = omega arith;
        within = k.within;
        all =
            sym (append_assoc (decimal (left / 10)) ((48 + left % 10) ∷ []) k.done)
            ∙ ap (λ (s : List ℕ). s ++ k.done) (sym more)
            ∙ k.all;
        put = put_front k.within k.put some;
      }

  last : left < 10 → PutBefore end (decimal number) dest (at - 1) (set d (at - 1) (48 + left))
  last low =
      subst (λ (s : List ℕ). PutBefore end s dest (at - 1) (set d (at - 1) (48 + left)))
      (ap (λ (s : List ℕ). s ++ k.done) (sym (decimal_digit left low)) ∙ k.all)
      (put_front k.within k.put some)

pub loop-left-init : goal.loop-left-init
loop-left-init c = start _ _ _ (omega arith) c.requires

pub overflow_sub-at : goal.overflow_sub-at
overflow_sub-at c = some c.loop-left.invariant

pub loop-left-preserved : goal.loop-left-preserved
loop-left-preserved c = on c.loop-left.invariant c.loop-left-test.true

pub overflow_sub-at-2 : goal.overflow_sub-at-2
overflow_sub-at-2 c = some c.loop-left.invariant

pub returns : goal.returns
returns c =
    let put = last c.loop-left.invariant c.loop-left-test.false in
    let small : c.args.number < 10 ^ 20 = omega arith in
    record { short = omega (arith, decimal_length 19 c.args.number small small, put.starts); text = put }
