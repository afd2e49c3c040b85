-- `numbers::four_octets` meets its contract: the four octets are those of the place.
use mathlib.Core.Path.{◌≡◌, ◌∙◌}
use mathlib.Core.List.{List, [], ◌∷◌}
use Prim.Native.Nat.{ℕ, ◌+◌}
use native.Mathlib.Numerals.{unary_clauses}
use lib.ListN.{get_or}
use Rattle.octets.specs.BigEndian.{be_at}
use Rattle.requests.proofs.numbers.four_octets.Goals as goal

-- four octets, read one by one
four : (s : List ℕ) (at : ℕ) → be_at (get_or s at 0 ∷ get_or s (at + 1) 0 ∷ get_or s (at + 2) 0 ∷ get_or s (at + 3) 0 ∷ []) 0 4 ≡ be_at s at 4
unfolding be_at
four s at = simp unary_clauses

pub returns : goal.returns
returns c = c.be32.ensures ∙ four _ _
