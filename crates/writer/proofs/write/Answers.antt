-- `write` meets its contract: a refusal leaves the destination, and success puts section 0 and the body one after the other.
use Rattle.std.specs.Prelude.{Result, Ok, Err}
use Prim.Native.Nat.{ℕ, ◌≤◌}
use native.Mathlib.Omega.{arith}
use native.Mathlib.Nat.{zero-add}
use mathlib.Core.Path.{◌≡◌, refl, sym, ap, ◌∙◌}
use mathlib.Core.List.{List, ◌++◌}
use lib.ListN.{length, drop}
use Rattle.writer.specs.Plan.{parts_of, total_of, judged_plan}
use Rattle.writer.specs.Message.{indicator_octets, body_octets, message_octets}
use Rattle.writer.specs.Write.{Wrote, dest_of, write_of}
use Rattle.writer.specs.Put.{written_at}
use Rattle.writer.proofs.Checks.{Accepted, accepted, all_sound}
use Rattle.writer.proofs.Stored.{put_length, put_then}
use Rattle.writer.proofs.Lengths.{length_indicator, length_message}
use Rattle.writer.proofs.write.Goals as goal
use Rattle.writer.specs.declared.WriteRefusal.TheVariants.{TooManySections, NotOneMessage, OutsideStore, PayloadSize, NoRoom}
use Rattle.writer.specs.declared.WriteRefusal.{WriteRefusal}

unchanged : (w : Result ℕ WriteRefusal) (octets dest : List ℕ) → ((total : ℕ) → w ≡ Ok total → ⊥) → dest ≡ dest_of w octets dest
unfolding dest_of
unchanged (Ok total) octets dest other = absurd (other total refl)
unchanged (Err TooManySections) octets dest other = refl
unchanged (Err (NotOneMessage at)) octets dest other = refl
unchanged (Err (OutsideStore at)) octets dest other = refl
unchanged (Err (PayloadSize at)) octets dest other = refl
unchanged (Err NoRoom) octets dest other = refl

-- octets put at the start stand before what is left of the destination
in_front : (dest octets : List ℕ) (n : ℕ) → length octets ≡ n → written_at dest 0 octets ≡ octets ++ drop n dest
unfolding written_at
in_front dest octets n long = rw (long, zero-add)

module _ (discipline reserved₁ reserved₂ : ℕ) (plan store dest : List ℕ) where
  abbrev wrote : Wrote
  wrote = write_of discipline reserved₁ reserved₂ plan store dest

  refused : (w : Result ℕ WriteRefusal) → w ≡ judged_plan (parts_of plan) (length store) (length dest)
      → ((total : ℕ) → w ≡ Ok total → ⊥)
      → (w ≡ wrote.answer) × (dest ≡ wrote.dest)
  unfolding write_of
  refused w e other =
      let octets = message_octets discipline reserved₁ reserved₂ (parts_of plan) store in
      (e, unchanged w octets dest other ∙ ap (λ (v : Result ℕ WriteRefusal). dest_of v octets dest) e)

  module _ (total : ℕ) (e : judged_plan (parts_of plan) (length store) (length dest) ≡ Ok total) where
    has : Accepted (parts_of plan) (length store) (length dest) total
    has = accepted (parts_of plan) (length store) (length dest) total e

    room_16 : 16 ≤ length dest
    room_16 = let a = has in omega (arith, a.whole, a.has_room)

    module _ (d₁ : List ℕ) (e₁ : d₁ ≡ written_at dest 0 (indicator_octets discipline reserved₁ reserved₂ total)) where
      -- the plan is accepted for the destination with section 0 in it, which is as long
      still : judged_plan (parts_of plan) (length store) (length d₁) ≡ Ok (total_of (parts_of plan))
      still =
          let room = room_16 in
          let n = length_indicator discipline reserved₁ reserved₂ total in
          let long : length d₁ ≡ length dest =
          ap length e₁ ∙ put_length dest 0 (indicator_octets discipline reserved₁ reserved₂ total) (omega arith) in
          rw long (e ∙ ap Ok has.whole)

      whole : (d₂ : List ℕ) → d₂ ≡ written_at d₁ 16 (body_octets (parts_of plan) store) → (Ok total ≡ wrote.answer) × (d₂ ≡ wrote.dest)
      unfolding write_of dest_of message_octets
      whole d₂ e₂ =
          let room = room_16 in
          let octets = message_octets discipline reserved₁ reserved₂ (parts_of plan) store in
          let start = indicator_octets discipline reserved₁ reserved₂ total in
          let long : length octets ≡ total =
          length_message discipline reserved₁ reserved₂ (parts_of plan) store (all_sound has) ∙ sym has.whole in
          let put : d₂ ≡ written_at dest 0 (start ++ body_octets (parts_of plan) store) =
          e₂ ∙ put_then dest d₁ 0 start (body_octets (parts_of plan) store) 16 (length_indicator discipline reserved₁ reserved₂ total) room e₁ in
          let same : written_at dest 0 (start ++ body_octets (parts_of plan) store) ≡ written_at dest 0 octets = rw has.whole in
          (sym e, rw e (put ∙ same ∙ in_front dest octets total long))

pub returns-in_default : goal.returns-in_default
returns-in_default c =
    let a = c.args in
    let all = refused _ _ _ a.plan.now a.store.now a.dest.now c.judge_plan-answer.result c.judge_plan-answer.ensures
    c.in_default.not-Ok in
    record { answer = all.0; dest = all.1 }

pub put_indicator-requires : goal.put_indicator-requires
put_indicator-requires c =
    let a = c.args in
    room_16 a.discipline a.reserved_1 a.reserved_2 a.plan.now a.store.now a.dest.now _
    (sym c.judge_plan-answer.ensures ∙ c.in-Ok.is)

pub put_sections-requires : goal.put_sections-requires
put_sections-requires c =
    let a = c.args in
    still _ _ _ a.plan.now a.store.now a.dest.now _ (sym c.judge_plan-answer.ensures ∙ c.in-Ok.is)
    _ c.put_indicator.ensures

pub returns : goal.returns
returns c =
    let a = c.args in
    let all = whole _ _ _ a.plan.now a.store.now a.dest.now _ (sym c.judge_plan-answer.ensures ∙ c.in-Ok.is)
    _ c.put_indicator.ensures _ c.put_sections.ensures in
    record { answer = all.0; dest = all.1 }
