-- For each refusal 1 to 14 a walk that gives it, and for the order of the rows walks at which two
-- of them hold (01, "Refusal numbers"). Proved in proofs/Computed.antt.
use Rattle.std.specs.Prelude.{ℕ, ◌^◌, ◌<◌, ◌≡◌, List, [], ◌∷◌, ◌++◌, map, replicate, set, take, Err}
use Rattle.index.specs.Lines.{place}
use Rattle.index.specs.Numbers.{end_of}
use Rattle.index.specs.declared.numbers.End.{End}
use Rattle.index.specs.declared.refusal.Refusal.TheVariants as refusal
use Rattle.index.specs.Bounds.{unlimited}
use Rattle.index.specs.declared.bounds.Room.{Room}
use Rattle.index.specs.Walk.{ends, walked}
use Rattle.walk_laws.specs.ExactlyWhen.{TooLong}
use Rattle.walk_laws.specs.Samples.{
  sample0,
  sample_section,
  sample8,
  to7,
  file_a,
  twice,
  five_after7,
  end,
}
use Rattle.index.specs.Outcome.{refused_there}

-- a walk of a file, in tables of so many rows and lines, and how it ends
pub record Witness : Type 0 where
  pub room : Room
  pub file : List ℕ
  pub given : End

abbrev pub ending : List ℕ → End → Witness
ending file given = record { room = unlimited; file = file; given = given }

abbrev pub ending_in : ℕ → ℕ → List ℕ → End → Witness
ending_in rows lines file given =
    record { room = record { rows = rows; lines = lines }; file = file; given = given }

-- sections 0, 1, 3, 4, 5, and a section 6 of length 5
abbrev pub bare6 : List ℕ
bare6 =
    sample0 200 ++ sample_section 1 16 ++ sample_section 3 9 ++ sample_section 4 4 ++ sample_section 5 6
    ++ sample_section 6 0

unfoldable pub witnesses : List Witness
witnesses =
    -- 2, with the octets missing: a header cut, of which 4 and 3 octets are left; section 8 cut; a
    -- payload cut, to the section's end and not the message's; the longest section 1, of which the
    -- header is left; a section 6 of length 5 at the end of file
    ending (take 81 file_a) (end 2 6 77 1)
    ∷ ending (take 40 file_a) (end 2 2 37 2)
    ∷ ending (take 85 file_a) (end 2 7 82 1)
    ∷ ending (take 45 file_a) (end 2 2 37 6)
    ∷ ending (take 50 file_a) (end 2 2 37 1)
    ∷ ending (sample0 100 ++ 255 ∷ 255 ∷ 255 ∷ 255 ∷ 1 ∷ []) (end 2 1 16 4294967290)
    ∷ ending bare6 (end 2 5 71 1)
    -- 3; also where the total length is under 16, and in the second message
    ∷ ending (set file_a 7 3) (end 3 0 0 3)
    ∷ ending (set (sample0 15) 7 1) (end 3 0 0 1)
    ∷ ending (file_a ++ 1 ∷ set file_a 7 7) (end 3 8 87 7)
    -- 4
    ∷ ending (sample0 0) (end 4 0 0 0)
    -- 5
    ∷ ending (set file_a 85 56) (end 5 7 82 0)
    -- 6; also where the number is not 1 to 7
    ∷ ending (set file_a 19 4) (end 6 1 16 4)
    ∷ ending (set (set file_a 19 0) 20 9) (end 6 1 16 0)
    -- 7; also where the payload is cut
    ∷ ending (set file_a 20 0) (end 7 1 16 0)
    ∷ ending (take 30 (set file_a 20 8)) (end 7 1 16 8)
    -- 8; also where the section is longer than the rest, and a section 6 of length 5 before the end
    -- of file
    ∷ ending (sample0 100 ++ sample_section 1 15) (end 8 1 16 15)
    ∷ ending (sample0 30 ++ sample_section 1 15) (end 8 1 16 15)
    ∷ ending (bare6 ++ 0 ∷ []) (end 8 5 71 0)
    -- 9; and 2 where its payload is cut too
    ∷ ending (sample0 36 ++ sample_section 1 16) (end 9 1 16 21)
    ∷ ending (sample0 36 ++ take 20 (sample_section 1 16)) (end 2 1 16 1)
    -- 10: after section 0, and after a section 7 with nothing left of its message
    ∷ ending (sample0 16) (end 10 0 0 0)
    ∷ ending (to7 82) (end 10 6 77 0)
    -- 11: a section 8 before 7, a section 0 inside a message
    ∷ ending (sample0 41 ++ sample_section 1 16 ++ sample8) (end 11 2 37 8)
    ∷ ending (sample0 16 ++ file_a) (end 11 1 16 0)
    -- 12
    ∷ ending (sample0 100 ++ sample_section 1 16 ++ sample_section 4 4) (end 12 2 37 4)
    -- 13: at a section, at a closing 8 where 14 holds too, and after a line of a submessage that
    -- goes on
    ∷ ending_in 1 1 file_a (end 13 1 16 0)
    ∷ ending_in 7 0 file_a (end 13 7 82 0)
    ∷ ending_in 7 1 twice (end 13 7 82 0)
    -- 14: at a closing 8, and for a submessage that goes on, where 11 and 13 hold too
    ∷ ending_in 8 0 file_a (end 14 7 82 0)
    ∷ ending_in 7 0 five_after7 (end 14 7 82 0)
    ∷ ending_in 20 1 twice (end 14 11 113 0)
    -- a full table is none where no more is to be told, nor where the next section can't be read
    ∷ ending_in 8 1 file_a (end 0 0 0 0)
    ∷ ending_in 7 0 (take 84 file_a) (end 2 7 82 2)
    ∷ []

-- each is refused as it says
abbrev pub WitnessesHold : Type 0
WitnessesHold =
    map (λ (w : Witness). end_of (walked w.room w.file).outcome) witnesses
    ≡ map (λ (w : Witness). w.given) witnesses

-- 1: any file over 2^40 octets; nothing is told of it
abbrev pub TooLongRefused : Type 0
TooLongRefused =
    (room : Room) (file : List ℕ) → TooLong file
    → walked room file ≡ ends (Err (refused_there refusal.FileTooLong (place 0) (record { 0 = 0 })))

-- there are such files: so many zeros
abbrev pub LongFiles : Type 0
LongFiles = (n : ℕ) → 2 ^ 40 < n → TooLong (replicate n 0)
