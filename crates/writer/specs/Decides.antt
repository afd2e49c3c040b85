-- Tests in the code, for the function that takes one.
use Rattle.std.specs.Prelude.{ℕ, ◌≡◌, Bool}
use Rattle.writer.specs.Plan.{Part}

-- what the code may answer of a section's three numbers is what a test answers of the section
abbrev pub Decides : (ℕ → ℕ → ℕ → Bool → Type 0) → (Part → Bool) → Type 0
Decides answers test =
    (part : Part) (answer : Bool) → answers part.number part.offset part.length answer
    → answer ≡ test part
