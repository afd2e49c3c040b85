-- `put_sections` meets its contract. The loop keeps `Filled`: what is left, put from here on, is the whole body put.
use Rattle.std.specs.Prelude.{Ok}
use Prim.Native.Nat.{ℕ, ◌+◌, ◌*◌, ◌/◌, ◌≤◌, ◌<◌}
use native.Mathlib.Omega.{arith}
use mathlib.Core.Path.{◌≡◌, refl, ap, ◌∙◌}
use mathlib.Core.List.{List, [], ◌∷◌, ◌++◌, append_assoc}
use lib.ListN.{length, take, drop, get_or, length-append}
use Rattle.writer.specs.Plan.{parts_of, sections_size, total_of, judged_plan}
use Rattle.writer.specs.Message.{digits, section_octets, body_octets}
use Rattle.writer.specs.Put.{written_at}
use Rattle.writer.proofs.Parts.{part_at, next_row, no_row}
use Rattle.writer.proofs.Checks.{Sound, sound_head, sound_tail, accepted, all_sound}
use Rattle.writer.proofs.Stored.{put_length, put_then, length_digits}
use Rattle.writer.proofs.Lengths.{length_payload}
use Rattle.writer.proofs.put.put_sections.Goals as goal
use Rattle.writer.proofs.put.put_sections.Invariants.{Filled}

start : (plan store dest : List ℕ) → judged_plan (parts_of plan) (length store) (length dest) ≡ Ok (total_of (parts_of plan))
    → Filled plan store dest dest 16 0
start plan store dest e =
    let a = accepted (parts_of plan) (length store) (length dest) _ e in
    record { long = refl; sound = all_sound a; room = a.has_room; same = refl }

module _ {plan store dest d : List ℕ} {at place : ℕ} (k : Filled plan store dest d at place) where
  module _ (more : place < length plan / 3) where
    -- the section in hand
    here : Sound (length store) (part_at plan (place * 3))
    here = let e = next_row plan place more in sound_head (rw e at k.sound)

    space : at + (get_or plan (place * 3 + 2) 0 + 5 + sections_size (parts_of (drop ((place + 1) * 3) plan)) + 4) ≤ length d
    unfolding sections_size
    space = let e = next_row plan place more in (rw e at k.room)

    -- its header, then its payload
    on : (d₁ d₂ : List ℕ) → d₁ ≡ written_at d at (digits 4 (get_or plan (place * 3 + 2) 0 + 5) ++ (get_or plan (place * 3) 0 ∷ []))
        → d₂ ≡ written_at d₁ (at + 5) (take (get_or plan (place * 3 + 2) 0) (drop (get_or plan (place * 3 + 1) 0) store))
        → Filled plan store dest d₂ (at + (5 + get_or plan (place * 3 + 2) 0)) (place + 1)
    unfolding body_octets section_octets
    on d₁ d₂ e₁ e₂ =
        let e = next_row plan place more in
        let room = space in
        let octets = get_or plan (place * 3 + 2) 0 in
        let header = digits 4 (octets + 5) ++ (get_or plan (place * 3) 0 ∷ []) in
        let payload = take octets (drop (get_or plan (place * 3 + 1) 0) store) in
        let later = body_octets (parts_of (drop ((place + 1) * 3) plan)) store in
        let five : length header ≡ 5 = simp (length-append, length_digits) (omega arith) in
        let all : length (header ++ payload) ≡ 5 + octets =
        rw (length-append header payload, five, length_payload store (part_at plan (place * 3)) here) in
        let e₃ : d₂ ≡ written_at d at (header ++ payload) = e₂ ∙ put_then d d₁ at header payload 5 five (omega arith) e₁ in
        let long : length d₂ ≡ length d = ap length e₃ ∙ put_length d at (header ++ payload) (omega arith) in
        let split : section_octets (part_at plan (place * 3)) store ++ later ≡ (header ++ payload) ++ later = simp append_assoc in
        let same : written_at d at (section_octets (part_at plan (place * 3)) store ++ later) ≡ written_at dest 16 (body_octets (parts_of plan) store) = rw e at k.same in
        record {
          long = long ∙ k.long;
          sound = sound_tail (rw e at k.sound);
          room = omega arith;
          same = put_then d d₂ at (header ++ payload) later (5 + octets) all (omega arith) e₃ ∙ rw (← split) same;
        }

  module _ (over : length plan / 3 ≤ place) where
    last : at + 4 ≤ length d
    unfolding sections_size
    last = (rw (no_row plan place over) at k.room)

    ended : written_at d at (55 ∷ 55 ∷ 55 ∷ 55 ∷ []) ≡ written_at dest 16 (body_octets (parts_of plan) store)
    unfolding body_octets
    ended = (rw (no_row plan place over) at k.same)

pub loop-place-init : goal.loop-place-init
loop-place-init c = start _ _ _ c.requires

pub put_header-requires : goal.put_header-requires
put_header-requires c =
    let filled = c.loop-place.invariant in
    let sound = here filled c.loop-place-test.true in
    let room = space filled c.loop-place-test.true in
    (omega arith, (sound.to_7, sound.not_long))

pub put_part-requires : goal.put_part-requires
put_part-requires c =
    let filled = c.loop-place.invariant in
    let sound = here filled c.loop-place-test.true in
    let room = space filled c.loop-place-test.true in
    (sound.inside, omega arith)

pub overflow_add-at-in-loop-place : goal.overflow_add-at-in-loop-place
overflow_add-at-in-loop-place c =
    let room = space c.loop-place.invariant c.loop-place-test.true in
    omega arith

pub overflow_add-at-in-loop-place-2 : goal.overflow_add-at-in-loop-place-2
overflow_add-at-in-loop-place-2 c =
    let room = space c.loop-place.invariant c.loop-place-test.true in
    omega arith

pub loop-place-preserved : goal.loop-place-preserved
loop-place-preserved c = on c.loop-place.invariant c.loop-place-test.true _ _ c.put_header.ensures c.put_part.ensures

pub put_four-requires : goal.put_four-requires
put_four-requires c = last c.loop-place.invariant c.loop-place-test.false

pub returns : goal.returns
returns c = c.put_four.ensures ∙ ended c.loop-place.invariant c.loop-place-test.false
