-- Of rows in their order one answer follows.
use Prim.Native.Nat.{ℕ}
use mathlib.Core.Path.{◌≡◌, sym, ◌∙◌}
use mathlib.Core.Logic.{inl, inr}
use Rattle.walk_laws.specs.Rows.{Rows, no_more, row, FirstRow, NoRow}

-- two rows that are first are the same
pub first_same : (rows : Rows) (n d n' d' : ℕ) → FirstRow rows n d → FirstRow rows n' d' → (n ≡ n') × (d ≡ d')
first_same no_more n d n' d' p q = absurd p
first_same (row number Holds detail later) n d n' d' (inl p) (inl q) = (p.1 ∙ sym q.1, p.2 ∙ sym q.2)
first_same (row number Holds detail later) n d n' d' (inl p) (inr q) = absurd (q.0 p.0)
first_same (row number Holds detail later) n d n' d' (inr p) (inl q) = absurd (p.0 q.0)
first_same (row number Holds detail later) n d n' d' (inr p) (inr q) = first_same later n d n' d' p.1 q.1

-- where a row is first one holds
pub first_holds : (rows : Rows) (n d : ℕ) → FirstRow rows n d → NoRow rows → ⊥
first_holds no_more n d p q = p
first_holds (row number Holds detail later) n d (inl p) q = q.0 p.0
first_holds (row number Holds detail later) n d (inr p) q = first_holds later n d p.1 q.1
