-- When the public copy answers which numbers (01, "Refusal numbers", the column "Given exactly
-- when"; "Values octets and the public copy"). The walk's own are in the crate `walk_laws`.
use Rattle.std.specs.Prelude.{ℕ, ◌≤◌, ◌<◌, ◌≡◌, List, length}
use Rattle.octets.specs.Words.{Not, Iff}
use Rattle.index.specs.Bounds.{unlimited}
use Rattle.index.specs.Numbers.{stored}
use Rattle.index.specs.declared.numbers.StoreEnd.{StoreEnd}
use Rattle.publish.specs.Values.{licensed}
use Rattle.publish.specs.Copy.{copy_of}
use Rattle.publish.specs.End.{copy_end}
use Rattle.walk_laws.specs.ExactlyWhen.{TooLong, NotTooLong, Given, EndsClean}

-- number, place, offset and detail of a copy's refusal: 1, 19, then the walk's refusals
pub data CopyGiven (file dest : List ℕ) : ℕ → ℕ → ℕ → ℕ → Type 0 where
  copy_too_long : TooLong file → CopyGiven file dest 1 0 0 0
  too_short : NotTooLong file → length dest < length file → CopyGiven file dest 19 0 0 0
  of_walk : {n p o d : ℕ}
      → NotTooLong file → length file ≤ length dest → Given unlimited file n p o d
      → CopyGiven file dest n p o d

-- an answer in numbers that writes nothing
abbrev pub refusing : ℕ → ℕ → ℕ → ℕ → StoreEnd
refusing n p o d =
    record { end = record { outcome = n; place = p; offset = o; detail = d }; written = 0 }

-- a copy is refused exactly when
abbrev pub CopyRefusedExactlyWhen : Type 0
CopyRefusedExactlyWhen =
    (file dest : List ℕ) (n p o d : ℕ) → Not (n ≡ 0)
    → Iff (copy_end (copy_of licensed file dest).answer ≡ refusing n p o d)
    (CopyGiven file dest n p o d)

-- and written exactly when, all of it
abbrev pub CopyWrittenExactlyWhen : Type 0
CopyWrittenExactlyWhen =
    (file dest : List ℕ) (octets : ℕ)
    → Iff (copy_end (copy_of licensed file dest).answer ≡ stored octets)
    (NotTooLong file × (length file ≤ length dest) × EndsClean unlimited file
    × (octets ≡ length file))
