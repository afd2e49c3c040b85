-- The sample A of 01 by a plan, and a plan for each refusal, by computing.
use Rattle.std.specs.Prelude.{Result, Ok, Err}
use Prim.Native.Nat.{ℕ, ◌+◌}
use mathlib.Core.Path.{◌≡◌, refl}
use mathlib.Core.List.{List, [], ◌∷◌, ◌++◌}
use lib.ListN.{replicate}
use Rattle.sections.specs.Kinds.{least_payload_of, kind_of, kinds}
use Rattle.order.specs.Order.{judged}
use Rattle.writer.specs.Plan.{plan_place, parts_of, misfit_from, first_at, is_outside, is_wrong_size, sections_size, judged_plan}
use Rattle.writer.specs.Message.{digits, indicator_octets, section_octets, body_octets, message_octets}
use Rattle.writer.specs.declared.WriteRefusal.TheVariants.{TooManySections, NotOneMessage, OutsideStore, PayloadSize, NoRoom}
use Rattle.writer.specs.declared.WriteRefusal.{WriteRefusal}

-- a section of A: its number, and so many octets 9
abbrev least : ℕ → ℕ → List ℕ
least number octets = 0 ∷ 0 ∷ 0 ∷ (5 + octets) ∷ number ∷ replicate octets 9

abbrev file_a : List ℕ
file_a =
    (71 ∷ 82 ∷ 73 ∷ 66 ∷ 255 ∷ 255 ∷ 0 ∷ 2 ∷ 0 ∷ 0 ∷ 0 ∷ 0 ∷ 0 ∷ 0 ∷ 0 ∷ 86 ∷ [])
    ++ least 1 16 ++ least 3 9 ++ least 4 4 ++ least 5 6 ++ least 6 1 ++ least 7 0 ++ (55 ∷ 55 ∷ 55 ∷ 55 ∷ [])

-- its plan over a store of sixteen octets; parts overlap, and two numbers are left over
abbrev plan_a : List ℕ
plan_a = 1 ∷ 0 ∷ 16 ∷ 3 ∷ 0 ∷ 9 ∷ 4 ∷ 1 ∷ 4 ∷ 5 ∷ 2 ∷ 6 ∷ 6 ∷ 15 ∷ 1 ∷ 7 ∷ 16 ∷ 0 ∷ 7 ∷ 8 ∷ []

pub a_written : message_octets 0 255 255 (parts_of plan_a) (replicate 16 9) ≡ file_a
unfolding message_octets indicator_octets body_octets section_octets digits parts_of sections_size
a_written = refl

-- what is said of a plan with a store of 16 octets and a destination of so many
abbrev said : List ℕ → ℕ → Result ℕ WriteRefusal
said plan room = judged_plan (parts_of plan) 16 room

pub answers : (said plan_a 86 ≡ Ok 86) × (said plan_a 85 ≡ Err NoRoom)
    -- no section at all; a 4 after 1; the end after 3; an 8
    × (said [] 86 ≡ Err (NotOneMessage (plan_place 0))) × (said (1 ∷ 0 ∷ 16 ∷ 4 ∷ 0 ∷ 4 ∷ []) 86 ≡ Err (NotOneMessage (plan_place 1)))
    × (said (1 ∷ 0 ∷ 16 ∷ 3 ∷ 0 ∷ 9 ∷ []) 86 ≡ Err (NotOneMessage (plan_place 2))) × (said (8 ∷ 0 ∷ 16 ∷ []) 86 ≡ Err (NotOneMessage (plan_place 0)))
    -- a part outside at place 1 before a payload too short at place 0, and that alone
    × (said (1 ∷ 0 ∷ 15 ∷ 3 ∷ 8 ∷ 9 ∷ 4 ∷ 1 ∷ 4 ∷ 5 ∷ 2 ∷ 6 ∷ 6 ∷ 15 ∷ 1 ∷ 7 ∷ 16 ∷ 0 ∷ []) 0 ≡ Err (OutsideStore (plan_place 1)))
    × (said (1 ∷ 0 ∷ 15 ∷ 3 ∷ 7 ∷ 9 ∷ 4 ∷ 1 ∷ 4 ∷ 5 ∷ 2 ∷ 6 ∷ 6 ∷ 15 ∷ 1 ∷ 7 ∷ 16 ∷ 0 ∷ []) 0 ≡ Err (PayloadSize (plan_place 0)))
    -- 4,097 sections, whatever they are
    × (said (replicate 12291 9) 86 ≡ Err TooManySections)
unfolding judged_plan misfit_from first_at is_outside is_wrong_size judged least_payload_of kind_of kinds parts_of sections_size
answers = (refl, refl, refl, refl, refl, refl, refl, refl, refl)
