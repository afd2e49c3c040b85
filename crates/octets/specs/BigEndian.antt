-- Big-endian numbers, by one definition over the width (01, "What is ported", 1).
use Rattle.std.specs.Prelude.{ℕ, zero, suc, ◌+◌, ◌*◌, List, get_or}

-- the number that `width` octets of `s` write from `at` on, the most significant first
unfoldable pub be_at : List ℕ → ℕ → ℕ → ℕ
be_at s at zero = 0
be_at s at (suc k) = be_at s at k * 256 + get_or s (at + k) 0
