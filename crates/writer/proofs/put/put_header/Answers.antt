-- `put_header` meets its contract: the length, and the number right after it.
use Prim.Native.Nat.{ℕ, ◌+◌, ◌≤◌}
use native.Mathlib.Omega.{arith}
use mathlib.Core.Path.{◌≡◌}
use mathlib.Core.List.{List, [], ◌∷◌, ◌++◌}
use lib.ListN.{length, set}
use Rattle.writer.specs.Message.{digits}
use Rattle.writer.specs.Put.{written_at}
use Rattle.writer.proofs.Stored.{put_set, length_digits}
use Rattle.writer.proofs.put.put_header.Goals as goal

header : (dest d : List ℕ) (at number octets : ℕ) → at + 5 ≤ length dest → d ≡ written_at dest at (digits 4 octets)
    → set d (at + 4) number ≡ written_at dest at (digits 4 octets ++ (number ∷ []))
header dest d at number octets room e = put_set dest d at (digits 4 octets) 4 number (length_digits 4 octets) (omega arith) e

pub returns : goal.returns
returns c = header _ _ _ _ _ c.requires.0 c.put_number.ensures
