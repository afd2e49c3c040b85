-- The crate's writer writes the octets of our definition: of every nested message, and so of every plan that ours accepts.
use Prim.Native.Nat.{ℕ, suc, ◌+◌, ◌≤◌, ◌<◌}
use native.Mathlib.Omega.{arith}
use mathlib.Core.Path.{◌≡◌, refl, ◌∙◌}
use mathlib.Core.Bool.{Bool, true, false}
use mathlib.Core.List.{List, [], ◌∷◌, ◌++◌, map, flat_map, append_assoc}
use mathlib.Core.Logic.{⊎_elim}
use lib.Dec.{ltb}
use lib.ListN.{length, drop, length-append, length-drop}
use lib.Seq.{length-take-le}
use borrow.Author.Tests.{ltb-true, ltb-false, lt-ltb, le-ltb}
use Rattle.sections.specs.Kinds.{end_mark}
use Rattle.writer.specs.Plan.{Part, parts_of, sections_size, total_of}
use Rattle.writer.specs.Message.{section_octets, body_octets, message_octets}
use Rattle.writer.specs.Write.{dest_of, write_of}
use Rattle.round_trip.specs.ReadBack.{part_of}
use Rattle.round_trip.specs.Faults.{AtNone, Outside}
use Rattle.round_trip.proofs.Exactly.{exactly_whole, exactly_19}
use Rattle.as_the_encoder.specs.Encoder.{reference}
use Rattle.as_the_encoder.specs.Writes.{flattened, named, WritesAsTheRust, TooSmallAsTheRust, FramesWhateverIsNested, ReferenceLosesReserved}
use Rattle.as_the_encoder.proofs.EncodingSteps.{usizes}
use Rattle.as_the_encoder.proofs.EncodingLevels.{frame, framed, length_frame}
use Rattle.as_the_encoder.proofs.EncodingMessage.{message_writes}

-- what is not outside is inside
inside : (store : ℕ) (part : Part) → (Outside store part → ⊥) → part.offset + part.length ≤ store
inside store part not-outside = go (ltb store (part.offset + part.length)) refl
  where
    go : (t : Bool) → ltb store (part.offset + part.length) ≡ t → part.offset + part.length ≤ store
    go true e = absurd (not-outside (ltb-true store (part.offset + part.length) e))
    go false e = ltb-false store (part.offset + part.length) e

-- a part inside the store has its length
length_part : (store : List ℕ) (part : Part) → part.offset + part.length ≤ length store → length (part_of store part) ≡ part.length
length_part store part within = length-take-le part.length (drop part.offset store) (simp length-drop (omega arith))

-- the sections of a plan are framed alike
frames_part : (store : List ℕ) (part : Part) → part.offset + part.length ≤ length store → frame (named store part) ≡ section_octets part store
unfolding section_octets
frames_part store part within = rw (length_part store part within)

frames_parts : (store : List ℕ) (parts : List Part) → AtNone (Outside (length store)) parts
    → framed (map (named store) parts) ++ end_mark ≡ body_octets parts store
unfolding body_octets flat_map
frames_parts store [] none = refl
frames_parts store (part ∷ more) none =
    let first = frames_part store part (inside (length store) part (none 0 (omega arith))) in
    let rest = frames_parts store more (λ k within. none (suc k) (omega arith)) in
    append_assoc (frame (named store part)) (framed (map (named store) more)) end_mark ∙ rw (first, rest)

-- and have as many octets
counts_parts : (store : List ℕ) (parts : List Part) → AtNone (Outside (length store)) parts
    → sections_size parts ≡ length (framed (map (named store) parts))
unfolding sections_size flat_map
counts_parts store [] none = refl
counts_parts store (part ∷ more) none =
    let payload = length_part store part (inside (length store) part (none 0 (omega arith))) in
    let first = length_frame (named store part) in
    let rest = counts_parts store more (λ k within. none (suc k) (omega arith)) in
    let joined = length-append (frame (named store part)) (framed (map (named store) more)) in
    omega arith

pub frames_whatever_is_nested : FramesWhateverIsNested
unfolding message_octets
frames_whatever_is_nested m plan store dest planned none =
    let parts = parts_of plan in
    let size_of : total_of parts ≡ 16 + (length (framed (flattened m)) + 4) = rw (← planned, ← counts_parts store parts none) in
    let body : framed (flattened m) ++ end_mark ≡ body_octets parts store = rw (← planned) (frames_parts store parts none) in
    message_writes m dest (total_of parts) size_of ∙ rw body

pub writes_as_the_rust : WritesAsTheRust
unfolding write_of dest_of
writes_as_the_rust m plan store dest total planned whole =
    let g = (exactly_whole m.discipline m.reserved₁ m.reserved₂ plan store dest total).0 whole in
    let same = g.6 in
    let room = g.4 in
    let small = g.5 in
    frames_whatever_is_nested m plan store dest planned g.2
    ∙ rw (whole, ← same, lt-ltb total usizes (omega arith), le-ltb (length dest) total (omega arith))

pub too_small_as_the_rust : TooSmallAsTheRust
unfolding write_of dest_of
too_small_as_the_rust m plan store dest planned no_room small =
    let g = (exactly_19 m.discipline m.reserved₁ m.reserved₂ plan store dest).0 no_room in
    let total = total_of (parts_of plan) in
    let short : length dest < total = ⊎_elim (λ under. under) (λ over. omega arith) g.4 in (
      frames_whatever_is_nested m plan store dest planned g.2
          ∙ rw (lt-ltb total usizes (omega arith), lt-ltb (length dest) total short),
      rw no_room,
    )

-- a reference planned the same sections
pub reference_loses_reserved : ReferenceLosesReserved
unfolding flattened
reference_loses_reserved m plan store dest total planned whole = writes_as_the_rust (reference m) plan store dest total planned whole
