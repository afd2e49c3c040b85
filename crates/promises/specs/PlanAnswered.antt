-- When the writer answers which numbers, and that what it writes reads back (01, "The writer",
-- "Refusal numbers").
use Rattle.std.specs.Prelude.{ℕ, ◌≤◌, ◌<◌, ◌≡◌, List, [], ◌∷◌, ◌++◌, length, take}
use Rattle.octets.specs.Words.{Not, Iff}
use Rattle.index.specs.Numbers.{unplaced}
use Rattle.index.specs.declared.numbers.StoreEnd.{StoreEnd}
use Rattle.writer.specs.Plan.{Part, most_sections, parts_of}
use Rattle.writer.specs.Write.{write_of}
use Rattle.writer.specs.End.{write_end}
use Rattle.walk_laws.specs.OneStep.{OrderGiven}
use Rattle.round_trip.specs.Faults.{
  FirstAt,
  AtNone,
  OneMessage,
  FirstMisfit,
  Outside,
  WrongSize,
  TooLarge,
}
use Rattle.round_trip.specs.ReadBack.{numbers_of, ReadsBack}

-- number and detail of a plan's refusal, with a store and a destination of so many octets: 15, 16,
-- 17, 18, 19, each over the whole plan before the next
pub data PlanGiven (parts : List Part) (store room : ℕ) : ℕ → ℕ → Type 0 where
  too_many : most_sections < length parts → PlanGiven parts store room 15 0
  not_one_message : {at : ℕ} → length parts ≤ most_sections → FirstMisfit parts at
      → PlanGiven parts store room 16 at
  outside_store : {at : ℕ} → length parts ≤ most_sections → OneMessage parts
      → FirstAt (Outside store) parts at → PlanGiven parts store room 17 at
  wrong_size : {at : ℕ} → length parts ≤ most_sections → OneMessage parts
      → AtNone (Outside store) parts → FirstAt WrongSize parts at → PlanGiven parts store room 18 at
  no_room : length parts ≤ most_sections → OneMessage parts → AtNone (Outside store) parts
      → AtNone WrongSize parts → TooLarge parts room → PlanGiven parts store room 19 0

-- a plan that is written: none of these is given
pub record PlanTaken (parts : List Part) (store room : ℕ) : Type 0 where
  pub few : length parts ≤ most_sections
  pub one_message : OneMessage parts
  pub inside_store : AtNone (Outside store) parts
  pub sound_sizes : AtNone WrongSize parts
  pub not_too_large : TooLarge parts room → ⊥

-- a call's answer in numbers
abbrev pub write_answer : ℕ → ℕ → ℕ → List ℕ → List ℕ → List ℕ → StoreEnd
write_answer discipline reserved₁ reserved₂ plan store dest =
    write_end (write_of discipline reserved₁ reserved₂ plan store dest).answer

-- 15 to 19, naming the first place at fault
abbrev pub PlanRefusedExactlyWhen : Type 0
PlanRefusedExactlyWhen =
    (discipline reserved₁ reserved₂ : ℕ) (plan store dest : List ℕ) (n d : ℕ) → Not (n ≡ 0)
    → Iff (write_answer discipline reserved₁ reserved₂ plan store dest ≡ unplaced n d)
    (PlanGiven (parts_of plan) (length store) (length dest) n d)

-- 0
abbrev pub PlanTakenExactlyWhen : Type 0
PlanTakenExactlyWhen =
    (discipline reserved₁ reserved₂ : ℕ) (plan store dest : List ℕ)
    → Iff ((write_answer discipline reserved₁ reserved₂ plan store dest).end.outcome ≡ 0)
    (PlanTaken (parts_of plan) (length store) (length dest))

-- a plan is one message where its numbers, with 0 before and 8 after, come in order, and no 8 is
-- among them
abbrev pub OneMessageIsInOrder : Type 0
OneMessageIsInOrder =
    (parts : List Part)
    → Iff (OneMessage parts)
    (OrderGiven (0 ∷ (numbers_of parts ++ (8 ∷ []))) 0 0 0 × AtNone (λ part. part.number ≡ 8) parts)

-- what is written reads back: rows, payloads, discipline, a clean walk
abbrev pub WrittenReadsBack : Type 0
WrittenReadsBack =
    (discipline reserved₁ reserved₂ : ℕ) (plan store dest : List ℕ)
    → let answer = write_answer discipline reserved₁ reserved₂ plan store dest in
    let written = (write_of discipline reserved₁ reserved₂ plan store dest).dest in
    answer.end.outcome ≡ 0
    → ReadsBack discipline (parts_of plan) store (take answer.written written) answer.written
