-- That the crate's writer (Encoder.antt) and ours write the same octets (01, "The writer"), and
-- what the crate writes that 01 refuses.
use Rattle.std.specs.Prelude.{ℕ, ◌≤◌, ◌≡◌, ltb, length, drop, replicate, Result, Ok, Err}
use mathlib.Core.List.{List, [], ◌∷◌, ◌++◌, map, flat_map}
use Rattle.std.proofs.Math.Option.{Option, none, some}
use Rattle.octets.specs.Words.{pick}
use Rattle.sections.specs.Kinds.{end_mark}
use Rattle.index.specs.Bounds.{most_octets}
use Rattle.writer.specs.Plan.{Part, plan_place, parts_of, total_of, judged_plan}
use Rattle.writer.specs.Message.{message_octets}
use Rattle.writer.specs.Write.{write_of}
use Rattle.round_trip.specs.ReadBack.{part_of}
use Rattle.round_trip.specs.Faults.{AtNone, OneMessage, Outside}
use Rattle.as_the_encoder.specs.Encoder as crate
use Rattle.as_the_encoder.specs.Encoder.{
  TooSmall,
  usize,
  having,
  IterL3,
  IterL2,
  IterL1,
  Grib2Message,
  Grib2Message-write,
  reference,
}
use Rattle.writer.specs.declared.WriteRefusal.TheVariants.{NotOneMessage, PayloadSize, NoRoom}
use Rattle.writer.specs.declared.WriteRefusal.{WriteRefusal}

-- the sections of each level of a nested message, in a row: number and payload of each
unfoldable pub flattened_l3 : IterL3 → List (ℕ × List ℕ)
flattened_l3 m =
    (4, m.section4) ∷ (5, m.data_sections.section5) ∷ (6, m.data_sections.section6)
    ∷ (7, m.data_sections.section7) ∷ []

unfoldable pub flattened_l2 : IterL2 → List (ℕ × List ℕ)
flattened_l2 m = (3, m.section3) ∷ flat_map flattened_l3 m.iter

-- an optional section 2
abbrev pub if_some : Option (List ℕ) → List (ℕ × List ℕ)
if_some none = []
if_some (some section2) = (2, section2) ∷ []

unfoldable pub flattened_l1 : IterL1 → List (ℕ × List ℕ)
flattened_l1 m = if_some m.section2 ++ flat_map flattened_l2 m.iter

-- of the whole message
unfoldable pub flattened : Grib2Message → List (ℕ × List ℕ)
flattened m = (1, m.section1) ∷ flat_map flattened_l1 m.iter

-- what a plan's part names in a store
abbrev pub named : List ℕ → Part → ℕ × List ℕ
named store part = (part.number, part_of store part)

-- a plan over a store is one of a nested message: its numbers and payloads are the message's in a
-- row
abbrev pub IsPlanOf : List ℕ → List ℕ → Grib2Message → Type 0
IsPlanOf plan store m = map (named store) (parts_of plan) ≡ flattened m

-- where ours accepts a plan, the crate writes the message whose plan it is: it neither overflows
-- nor refuses, counts the same octets, and leaves the same destination, to the last octet
abbrev pub WritesAsTheRust : Type 0
WritesAsTheRust =
    (m : Grib2Message) (plan store dest : List ℕ) (total : ℕ) → IsPlanOf plan store m
    → let wrote = write_of m.discipline m.reserved₁ m.reserved₂ plan store dest in
    wrote.answer ≡ Ok total → Grib2Message-write m dest ≡ crate.Ok total wrote.dest

-- where ours has no room for a message of at most 2^40 octets, the crate answers "destination
-- buffer is too small"; both leave the destination as it was
abbrev pub TooSmallAsTheRust : Type 0
TooSmallAsTheRust =
    (m : Grib2Message) (plan store dest : List ℕ) → IsPlanOf plan store m
    → let wrote = write_of m.discipline m.reserved₁ m.reserved₂ plan store dest in
    wrote.answer ≡ Err NoRoom → total_of (parts_of plan) ≤ most_octets
    → (Grib2Message-write m dest ≡ TooSmall dest) × (wrote.dest ≡ dest)

-- a plan that is one message, and so every plan that ours accepts, is one of a nested message, with
-- any discipline and reserved octets
abbrev pub EveryAcceptedPlanIsNested : Type 0
EveryAcceptedPlanIsNested =
    (discipline reserved₁ reserved₂ : ℕ) (plan store : List ℕ) → OneMessage (parts_of plan)
    → (m : Grib2Message) × IsPlanOf plan store m × (m.discipline ≡ discipline)
    × (m.reserved₁ ≡ reserved₁) × (m.reserved₂ ≡ reserved₂)

-- and every nested message has a plan
abbrev pub EveryNestedMessageHasAPlan : Type 0
EveryNestedMessageHasAPlan =
    (m : Grib2Message)
    → (plan : List ℕ) × (store : List ℕ) × IsPlanOf plan store m
    × AtNone (Outside (length store)) (parts_of plan)

-- what the crate answers of every nested message and destination, also where 01 refuses with 15,
-- 16, 18, or 19 for a message over 2^40 octets: it asks for a destination that is long enough and a
-- total length under 2^64, and writes the octets of our definition
abbrev pub FramesWhateverIsNested : Type 0
FramesWhateverIsNested =
    (m : Grib2Message) (plan store dest : List ℕ) → IsPlanOf plan store m
    → AtNone (Outside (length store)) (parts_of plan)
    → Grib2Message-write m dest
    ≡ having (usize (total_of (parts_of plan))) λ total.
    pick (ltb (length dest) total) (TooSmall dest)
    (crate.Ok total
    (message_octets m.discipline m.reserved₁ m.reserved₂ (parts_of plan) store
    ++ drop total dest))

-- through a reference the crate writes what ours writes with the reserved octets 255 and 255,
-- whichever the message has
abbrev pub ReferenceLosesReserved : Type 0
ReferenceLosesReserved =
    (m : Grib2Message) (plan store dest : List ℕ) (total : ℕ) → IsPlanOf plan store m
    → let wrote = write_of m.discipline 255 255 plan store dest in
    wrote.answer ≡ Ok total → Grib2Message-write (reference m) dest ≡ crate.Ok total wrote.dest

-- a message with an empty section 1
abbrev pub unidentified : List IterL1 → Grib2Message
unidentified iter =
    record { discipline = 0; reserved₁ = 255; reserved₂ = 255; section1 = []; iter = iter }

-- of a plan with empty payloads: its message, what 01 answers, and what the crate writes into a
-- destination of as many octets
pub record Differs (plan : List ℕ) (m : Grib2Message) (why : Result ℕ WriteRefusal)
    (octets : List ℕ) : Type 0 where
  pub planned : IsPlanOf plan [] m
  pub refused : judged_plan (parts_of plan) 0 (length octets) ≡ why
  pub framed : Grib2Message-write m (replicate (length octets) 165)
      ≡ crate.Ok (length octets) octets

-- section 0 with its total length, where that is one octet; sections with an empty payload
abbrev pub start_of : ℕ → List ℕ
start_of total =
    71 ∷ 82 ∷ 73 ∷ 66 ∷ 255 ∷ 255 ∷ 0 ∷ 2 ∷ 0 ∷ 0 ∷ 0 ∷ 0 ∷ 0 ∷ 0 ∷ 0 ∷ total ∷ []

abbrev pub empty_section : ℕ → List ℕ
empty_section number = 0 ∷ 0 ∷ 0 ∷ 5 ∷ number ∷ []

-- the smallest of what the crate frames and 01 refuses
pub record FramesWhat01Refuses : Type 0 where
  -- 16: nothing after section 1
  pub no_grid : Differs (1 ∷ 0 ∷ 0 ∷ []) (unidentified []) (Err (NotOneMessage (plan_place 1)))
      (start_of 25 ++ empty_section 1 ++ end_mark)
  -- 16: no grid after section 2
  pub no_grid_after_2 : Differs (1 ∷ 0 ∷ 0 ∷ 2 ∷ 0 ∷ 0 ∷ [])
      (unidentified (record { section2 = some []; iter = [] } ∷ []))
      (Err (NotOneMessage (plan_place 2)))
      (start_of 30 ++ empty_section 1 ++ empty_section 2 ++ end_mark)
  -- 16: no product after section 3
  pub no_product : Differs (1 ∷ 0 ∷ 0 ∷ 3 ∷ 0 ∷ 0 ∷ [])
      (unidentified (record {
        section2 = none;
        iter = record { section3 = []; iter = [] } ∷ [];
      } ∷ []))
      (Err (NotOneMessage (plan_place 2)))
      (start_of 30 ++ empty_section 1 ++ empty_section 3 ++ end_mark)
  -- 18: payloads under their least
  pub under_least : Differs
      (1 ∷ 0 ∷ 0 ∷ 3 ∷ 0 ∷ 0 ∷ 4 ∷ 0 ∷ 0 ∷ 5 ∷ 0 ∷ 0 ∷ 6 ∷ 0 ∷ 0 ∷ 7 ∷ 0 ∷ 0 ∷ [])
      (unidentified (record {
        section2 = none;
        iter =
            record {
              section3 = [];
              iter =
                  record {
                    section4 = [];
                    data_sections = record { section5 = []; section6 = []; section7 = [] };
                  } ∷ [];
            } ∷ [];
      } ∷ []))
      (Err (PayloadSize (plan_place 0)))
      (start_of 50 ++ empty_section 1 ++ empty_section 3 ++ empty_section 4 ++ empty_section 5
      ++ empty_section 6 ++ empty_section 7 ++ end_mark)
