-- A plan of a message: its sections, and the checks 15 to 19 in document 01's order, each over the
-- whole plan before the next (01, "The writer", "Refusal numbers").
use Rattle.std.specs.Prelude.{ℕ, ◌+◌, Bool, false, ◌||◌, List, [], ◌∷◌, ltb, length}
use Rattle.std.specs.Prelude.{Option, Some, None, Result, Ok, Err, ⊤}
use Rattle.octets.specs.Words.{pick}
use Rattle.sections.specs.Kinds.{header_size, indicator_size, end_size, end_section}
use Rattle.sections.specs.Kinds.{least_payload_of}
use Rattle.order.specs.Order.{judged}
use Rattle.order.specs.declared.Order.{Order}
use Rattle.order.specs.declared.Order.TheVariants.{AfterIndicator}
use Rattle.order.specs.declared.Judged.{Judged}
use Rattle.order.specs.declared.Judged.TheVariants.{Fits, Closes, Misplaced, NoGrid}
use Rattle.index.specs.Bounds.{most_octets}
use Rattle.writer.specs.declared.PlanPlace.{PlanPlace}
use Rattle.writer.specs.declared.WriteRefusal.TheVariants.{TooManySections, NotOneMessage}
use Rattle.writer.specs.declared.WriteRefusal.TheVariants.{OutsideStore, PayloadSize, NoRoom}
use Rattle.writer.specs.declared.WriteRefusal.{WriteRefusal}

-- the most sections of a plan
abbrev pub most_sections : ℕ
most_sections = 4096

-- the most octets of a payload: with its header's 5 they are a number of four octets
abbrev pub most_payload : ℕ
most_payload = 4294967290

-- a section's place in a plan, counted from 0
abbrev pub plan_place : ℕ → PlanPlace
plan_place at = record { 0 = at }

-- a section of a plan: its number, and the part of the store that is its payload
pub record Part : Type 0 where
  pub number : ℕ
  pub offset : ℕ
  pub length : ℕ

-- a plan is lent as rows of three numbers; one or two left over are no section
unfoldable pub parts_of : List ℕ → List Part
parts_of [] = []
parts_of (number ∷ []) = []
parts_of (number ∷ offset ∷ []) = []
parts_of (number ∷ offset ∷ octets ∷ more) =
    record { number = number; offset = offset; length = octets } ∷ parts_of more

-- what a check finds: nothing at fault, or the first place at fault
abbrev pub Finding : Type 0
Finding = Result ⊤ PlanPlace

-- a number that may come next goes on; any other, 0 and 8 too, is at fault
abbrev pub or_at : Judged → ℕ → (Order → Finding) → Finding
or_at (Fits next) at later = later next
or_at Closes at later = Err (plan_place at)
or_at Misplaced at later = Err (plan_place at)
or_at NoGrid at later = Err (plan_place at)

-- at the plan's end an 8 has to close the message
abbrev pub closed_at : Judged → ℕ → Finding
closed_at Closes at = Ok tt
closed_at (Fits next) at = Err (plan_place at)
closed_at Misplaced at = Err (plan_place at)
closed_at NoGrid at = Err (plan_place at)

-- 16: the first place whose number can't come next, or the plan's length if only the 8 misfits
unfoldable pub misfit_from : Order → ℕ → List Part → Finding
misfit_from order at [] = closed_at (judged order end_section.number) at
misfit_from order at (part ∷ more) =
    or_at (judged order part.number) at (λ next. misfit_from next (at + 1) more)

-- after a section 0
abbrev pub misfit : List Part → Finding
misfit parts = misfit_from AfterIndicator 0 parts

-- the first place, counted on from one, of a part that a test finds at fault
unfoldable pub first_at : (Part → Bool) → ℕ → List Part → Finding
first_at faulty at [] = Ok tt
first_at faulty at (part ∷ more) =
    let later = first_at faulty (at + 1) more in
    pick (faulty part) (Err (plan_place at)) later

-- 17: offset plus length over the store's length
unfoldable pub is_outside : ℕ → Part → Bool
is_outside store part = ltb store (part.offset + part.length)

-- a payload under its kind's least; false where the number has no least: 16 comes first, so that no
-- such number is left
abbrev pub under_least : Option ℕ → ℕ → Bool
under_least (Some least) octets = ltb octets least
under_least None octets = false

-- 18: payload under its least, or so long that its section's length is no number of four octets
unfoldable pub is_wrong_size : Part → Bool
is_wrong_size part =
    under_least (least_payload_of part.number) part.length || ltb most_payload part.length

-- payload and 5 for each section
unfoldable pub sections_size : List Part → ℕ
sections_size [] = 0
sections_size (part ∷ more) = part.length + header_size + sections_size more

-- total length: 16, the sections, and 4
abbrev pub total_of : List Part → ℕ
total_of parts = indicator_size + (sections_size parts + end_size)

-- a check that names a place refuses; after one that passes comes the next
abbrev pub unless : Finding → (PlanPlace → WriteRefusal) → Result ℕ WriteRefusal
    → Result ℕ WriteRefusal
unless (Err at) refused later = Err (refused at)
unless (Ok tt) refused later = later

-- the checks: 15, 16, 17, 18, 19
unfoldable pub judged_plan : List Part → ℕ → ℕ → Result ℕ WriteRefusal
judged_plan parts store room =
    pick (ltb most_sections (length parts)) (Err TooManySections)
    (unless (misfit parts) NotOneMessage
    (unless (first_at (is_outside store) 0 parts) OutsideStore
    (unless (first_at is_wrong_size 0 parts) PayloadSize
    (pick (ltb room (total_of parts)) (Err NoRoom)
    (pick (ltb most_octets (total_of parts)) (Err NoRoom)
    (Ok (total_of parts)))))))
