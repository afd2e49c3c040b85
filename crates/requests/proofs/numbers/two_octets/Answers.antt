-- `numbers::two_octets` meets its contract: the two octets are those of the place.
use mathlib.Core.Path.{◌≡◌, ◌∙◌}
use mathlib.Core.List.{List, [], ◌∷◌}
use Prim.Native.Nat.{ℕ, ◌+◌}
use native.Mathlib.Numerals.{unary_clauses}
use lib.ListN.{get_or}
use Rattle.octets.specs.BigEndian.{be_at}
use Rattle.requests.proofs.numbers.two_octets.Goals as goal

-- two octets, read one by one
two : (s : List ℕ) (at : ℕ) → be_at (get_or s at 0 ∷ get_or s (at + 1) 0 ∷ []) 0 2 ≡ be_at s at 2
unfolding be_at
two s at = simp unary_clauses

pub returns : goal.returns
returns c = c.be16.ensures ∙ two _ _
