-- Octets put into a list from its end on, for the contracts of the functions that store.
use Rattle.std.specs.Prelude.{ℕ, ◌+◌, ◌≤◌, ◌≡◌, List, ◌++◌, length, take, drop}

-- there is room for so many octets right before `end`
abbrev pub RoomFor : ℕ → ℕ → List ℕ → Type 0
RoomFor n end dest = (n ≤ end) × (end ≤ length dest)

-- a text stands right before `end`, from `start` on, and all else is as it was in `dest`
pub record PutBefore (end : ℕ) (text dest : List ℕ) (start : ℕ) (exit : List ℕ) : Type 0 where
  pub starts : start + length text ≡ end
  pub same : exit ≡ take start dest ++ (text ++ drop end dest)
