-- `writes::eight_octets` meets its contract: the eight octets are those of the place.
use Rattle.std.proofs.Common.{◌≡◌, ℕ, ◌+◌, List, [], ◌∷◌, get_or, ◌∙◌}
use native.Mathlib.Numerals.{unary_clauses}
use Rattle.octets.specs.BigEndian.{be_at}
use Rattle.replaying.proofs.writes.eight_octets.Goals as goal

-- eight octets, read one by one
abbrev eight_at : List ℕ → ℕ → List ℕ
eight_at s at =
    get_or s at 0 ∷ get_or s (at + 1) 0 ∷ get_or s (at + 2) 0 ∷ get_or s (at + 3) 0
    ∷ get_or s (at + 4) 0 ∷ get_or s (at + 5) 0 ∷ get_or s (at + 6) 0 ∷ get_or s (at + 7) 0 ∷ []

eight : (s : List ℕ) (at : ℕ) → be_at (eight_at s at) 0 8 ≡ be_at s at 8
unfolding be_at
eight s at = simp unary_clauses

pub returns : goal.returns
returns c = c.be64.ensures ∙ eight c.args.input.now c.args.at
