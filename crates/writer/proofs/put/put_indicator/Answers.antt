-- `put_indicator` meets its contract: "GRIB", the four octets after it, and the total length, each right after the other.
use Prim.Native.Nat.{ℕ, ◌≤◌}
use native.Mathlib.Omega.{arith}
use mathlib.Core.Path.{◌≡◌, refl, ◌∙◌}
use mathlib.Core.List.{List, [], ◌∷◌}
use lib.ListN.{length}
use Rattle.writer.specs.Message.{digits, indicator_octets}
use Rattle.writer.specs.Put.{written_at}
use Rattle.writer.proofs.Stored.{put_then}
use Rattle.writer.proofs.put.put_indicator.Goals as goal

joined : (dest d₁ d₂ d₃ : List ℕ) (discipline reserved₁ reserved₂ total : ℕ) → 16 ≤ length dest
    → d₁ ≡ written_at dest 0 (71 ∷ 82 ∷ 73 ∷ 66 ∷ []) → d₂ ≡ written_at d₁ 4 (reserved₁ ∷ reserved₂ ∷ discipline ∷ 2 ∷ [])
    → d₃ ≡ written_at d₂ 8 (digits 8 total) → d₃ ≡ written_at dest 0 (indicator_octets discipline reserved₁ reserved₂ total)
unfolding indicator_octets
joined dest d₁ d₂ d₃ discipline reserved₁ reserved₂ total room e₁ e₂ e₃ =
    let four : List ℕ = 71 ∷ 82 ∷ 73 ∷ 66 ∷ [] in
    let eight : List ℕ = 71 ∷ 82 ∷ 73 ∷ 66 ∷ reserved₁ ∷ reserved₂ ∷ discipline ∷ 2 ∷ [] in
    let e₄ : d₂ ≡ written_at dest 0 eight = e₂ ∙ put_then dest d₁ 0 four _ 4 refl (omega arith) e₁ in
    e₃ ∙ put_then dest d₂ 0 eight (digits 8 total) 8 refl (omega arith) e₄

pub returns : goal.returns
returns c =
    joined _ _ _ _ _ _ _ _ c.requires c.put_four.ensures c.put_four-2.ensures
    c.put_number.ensures
