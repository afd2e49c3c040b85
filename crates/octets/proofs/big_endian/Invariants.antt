-- `octets::big_endian` meets its contract. The invariant: the sum is the number of the octets passed.
use mathlib.Core.Path.{◌≡◌}
use Rattle.octets.specs.BigEndian.{be_at}
use Rattle.octets.proofs.big_endian.Given as goal

abbrev pub invariant-loop-octet : goal.invariant-loop-octet
invariant-loop-octet l = l.sum ≡ be_at l.s 0 l.octet-index
