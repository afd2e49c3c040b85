-- The payload of each section listed is the plan's part of the store.
use Prim.Native.Nat.{ℕ, ◌+◌, ◌-◌}
use native.Mathlib.Omega.{arith}
use mathlib.Core.Path.{◌≡◌, refl, ap, ◌∙◌}
use mathlib.Core.List.{List, [], ◌∷◌, ◌++◌, append_assoc, map}
use lib.ListN.{length, take, drop, length-append}
use lib.Seq.{take_at, drop_at, drop-append-add}
use Rattle.writer.specs.Plan.{Part, total_of}
use Rattle.writer.specs.Message.{digits, indicator_octets, section_octets, body_octets, message_octets}
use Rattle.writer.proofs.Checks.{Sound, AllSound, none, one}
use Rattle.writer.proofs.Stored.{length_digits}
use Rattle.writer.proofs.Lengths.{length_payload, length_section, length_indicator}
use Rattle.round_trip.specs.ReadBack.{listed_as, sections_from, numbers_of, part_of, payload_in}

-- behind any octets
payload_there : (store front later : List ℕ) (part : Part) → Sound (length store) part
    → payload_in (front ++ (section_octets part store ++ later)) (listed_as part.number (length front) (part.length + 5)) ≡ part_of store part
unfolding section_octets
payload_there store front later part sound =
    let header = digits 4 (part.length + 5) ++ (part.number ∷ []) in
    let payload = part_of store part in
    let split : section_octets part store ++ later ≡ header ++ (payload ++ later) = simp append_assoc in
    let five : length header ≡ 5 = simp (length-append, length_digits) (omega arith) in
    let octets : part.length + 5 - 5 ≡ part.length = omega arith in
    let behind : drop (length front + 5) (front ++ (section_octets part store ++ later)) ≡ payload ++ later =
    drop-append-add front (section_octets part store ++ later) 5 ∙ rw split (drop_at header (payload ++ later) 5 five) in
    rw octets (ap (take part.length) behind ∙ take_at payload later part.length (length_payload store part sound))

payloads_from : (store front : List ℕ) (parts : List Part) → AllSound (length store) parts
    → map (payload_in (front ++ body_octets parts store)) (sections_from (length front) parts) ≡ map (part_of store) parts
unfolding body_octets sections_from
payloads_from store front [] none = refl
payloads_from store front (part ∷ more) (one head tail) =
    let here = section_octets part store in
    let later = body_octets more store in
    let long : length (front ++ here) ≡ length front + (part.length + 5) =
    length-append front here ∙ rw (length_section store part head) in
    let ih : map (payload_in ((front ++ here) ++ later)) (sections_from (length (front ++ here)) more) ≡ map (part_of store) more =
    payloads_from store (front ++ here) more tail in
    let after : map (payload_in (front ++ (here ++ later))) (sections_from (length front + (part.length + 5)) more)
    ≡ map (part_of store) more =
    rw (append_assoc front here later, long) at ih in
    let first = payload_there store front later part head in
    cc

-- those of a message
pub payloads : (discipline reserved₁ reserved₂ : ℕ) (parts : List Part) (store : List ℕ) → AllSound (length store) parts
    → map (payload_in (message_octets discipline reserved₁ reserved₂ parts store)) (sections_from 16 parts) ≡ map (part_of store) parts
unfolding message_octets
payloads discipline reserved₁ reserved₂ parts store sound =
    rw (length_indicator discipline reserved₁ reserved₂ (total_of parts))
    at (payloads_from store (indicator_octets discipline reserved₁ reserved₂ (total_of parts)) parts sound)

-- the numbers listed are the plan's, and an 8
pub numbers_from : (at end : ℕ) (parts : List Part)
    → map (λ section. section.number) (sections_from at parts ++ (listed_as 8 end 4 ∷ [])) ≡ numbers_of parts ++ (8 ∷ [])
unfolding sections_from
numbers_from at end [] = refl
numbers_from at end (part ∷ more) = let ih = numbers_from (at + (part.length + 5)) end more in cc
