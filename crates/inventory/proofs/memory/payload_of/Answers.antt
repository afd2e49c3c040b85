-- `payload_of` meets its contract: the section's own octets without the first five.
use mathlib.Core.Path.{ap, ◌∙◌}
use mathlib.Core.List.{List}
use Prim.Native.Nat.{ℕ}
use lib.ListN.{drop}
use Rattle.index.specs.Decoded.{payload_of}
use Rattle.inventory.proofs.Parts.{past, to_end}
use Rattle.inventory.proofs.memory.payload_of.Goals as goal

pub returns-then-own-lt-HEADER_SIZE : goal.returns-then-own-lt-HEADER_SIZE
unfolding payload_of
returns-then-own-lt-HEADER_SIZE c = past c.own_octets-own.result.now 5 c.if-own-lt-HEADER_SIZE.true ∙ ap (λ (l : List ℕ). drop 5 l) c.own_octets-own.ensures

pub returns : goal.returns
unfolding payload_of
returns c = to_end c.own_octets-own.result.now 5 ∙ ap (λ (l : List ℕ). drop 5 l) c.own_octets-own.ensures
