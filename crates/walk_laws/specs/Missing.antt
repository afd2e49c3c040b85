-- How much is missing (02, Ticket 2): what the night desk relies on when it sends for the rest of a
-- file that ends too soon. ExactlyWhen.antt has the counts themselves. The statements are proved in
-- proofs/Missing.antt, under their names in small letters.
use Rattle.std.specs.Prelude.{ℕ, ◌-◌, ◌≤◌, ◌<◌, ◌≡◌, List, ◌++◌, length}
use Rattle.index.specs.Numbers.{end_of}
use Rattle.index.specs.declared.bounds.Room.{Room}
use Rattle.index.specs.Walk.{walked}
use Rattle.walk_laws.specs.ExactlyWhen.{NotTooLong}

-- a file is refused with 2 at this place and offset, and so many octets are missing
abbrev pub Lacks : Room → List ℕ → ℕ → ℕ → ℕ → Type 0
Lacks room file place offset missing =
    end_of (walked room file).outcome
    ≡ record { outcome = 2; place = place; offset = offset; detail = missing }

-- one octet at least: no answer uses 0 for "nothing is missing"
abbrev pub OneIsMissing : Type 0
OneIsMissing =
    (room : Room) (file : List ℕ) (place offset missing : ℕ) → Lacks room file place offset missing
    → 1 ≤ missing

-- fewer octets than told never make the section readable, and each octet that arrives lowers the
-- count by one: behind so many more the file is refused as before, and that many fewer are missing
abbrev pub EachOctetCounts : Type 0
EachOctetCounts =
    (room : Room) (file more : List ℕ) (place offset missing : ℕ)
    → Lacks room file place offset missing → length more < missing → NotTooLong (file ++ more)
    → Lacks room (file ++ more) place offset (missing - length more)

-- what the page cites
pub record HowMuchIsMissing : Type 0 where
  pub one_at_least : OneIsMissing
  pub each_counts : EachOctetCounts
