-- The small words of the definitions of every crate.
use Rattle.std.specs.Prelude.{Bool, true, false}

-- the first where the test holds, else the second
abbrev pub pick : {A : Type 0} → Bool → A → A → A
pick true a b = a
pick false a b = b

-- it is not so
abbrev pub Not : Type 0 → Type 0
Not A = A → ⊥

-- exactly when
abbrev pub Iff : Type 0 → Type 0 → Type 0
Iff A B = (A → B) × (B → A)
