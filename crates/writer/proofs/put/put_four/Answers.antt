-- `put_four` meets its contract.
use Prim.Native.Nat.{ℕ, ◌+◌, ◌≤◌}
use native.Mathlib.Omega.{arith}
use mathlib.Core.Path.{◌≡◌, refl}
use mathlib.Core.List.{List, [], ◌∷◌}
use lib.ListN.{length, set, length-set}
use Rattle.writer.specs.Put.{written_at}
use Rattle.writer.proofs.Stored.{put_one, put_set}
use Rattle.writer.proofs.put.put_four.Goals as goal

four : (dest : List ℕ) (at a b c d : ℕ) → at + 4 ≤ length dest
    → set (set (set (set dest at a) (at + 1) b) (at + 2) c) (at + 3) d ≡ written_at dest at (a ∷ b ∷ c ∷ d ∷ [])
four dest at a b c d room =
    let e₁ = put_one dest at a (omega arith) in
    let e₂ = put_set dest _ at (a ∷ []) 1 b refl (omega arith) e₁ in
    let e₃ = put_set dest _ at (a ∷ b ∷ []) 2 c refl (omega arith) e₂ in
    put_set dest _ at (a ∷ b ∷ c ∷ []) 3 d refl (omega arith) e₃

pub bounds-dest-at-2 : goal.bounds-dest-at-2
bounds-dest-at-2 c = simp length-set (omega (arith, c.requires))

pub bounds-dest-at-3 : goal.bounds-dest-at-3
bounds-dest-at-3 c = simp length-set (omega (arith, c.requires))

pub bounds-dest-at-4 : goal.bounds-dest-at-4
bounds-dest-at-4 c = simp length-set (omega (arith, c.requires))

pub returns : goal.returns
returns c = four _ _ _ _ _ _ c.requires
