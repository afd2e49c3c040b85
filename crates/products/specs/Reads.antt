-- Readers of octets in the code, for the function that takes one.
use Rattle.std.specs.Prelude.{ℕ, ◌≡◌, List, Option}

-- what the code may answer of octets is what a field's definition answers of them
abbrev pub Reads : {A : Type 0} → (List ℕ → Option A → Type 0) → (List ℕ → Option A) → Type 0
Reads answers field =
    (octets : List ℕ) (answer : _) → answers octets answer → answer ≡ field octets
