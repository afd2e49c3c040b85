-- A table of ranges, and what it says of a number.
use Rattle.std.specs.Prelude.{ℕ, List, [], ◌∷◌, leb}
use Rattle.octets.specs.Words.{pick}

-- each number from the first to the last has the value
pub data Range (A : Type 0) : Type 0 where
  ◌to◌is◌ : ℕ → ℕ → A → Range A

infix 50 ◌to◌is◌
-- the value of the first range that holds the number, else the other value
abbrev pub lookup : {A : Type 0} → A → ℕ → List (Range A) → A
lookup other n [] = other
lookup other n ((low to high is value) ∷ more) =
    let later = lookup other n more in
    pick (leb low n) (pick (leb n high) value later) later
