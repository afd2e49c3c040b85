-- Numbers by sign and size, of 1 to 4 octets (01, "What is ported", 1).
use Rattle.std.specs.Prelude.{ℕ, ◌-◌, ◌*◌, ◌%◌, ◌^◌, List, ltb, ℤ, pos, neg_ℤ, length, get_or, Option, Some, None}
use Rattle.octets.specs.Words.{pick}
use Rattle.octets.specs.BigEndian.{be_at}

-- the size: what all bits but the top bit of the first octet write
abbrev pub size_of : List ℕ → ℕ
size_of s = be_at s 0 (length s) % 2 ^ (8 * length s - 1)

-- the number: a set top bit of the first octet means the negative of the size
abbrev pub by_sign : List ℕ → ℤ
by_sign s = pick (ltb (get_or s 0 0) 128) (pos (size_of s)) (neg_ℤ (pos (size_of s)))

-- 1 to 4 octets write a number; any other count writes no number
unfoldable pub signed_of : List ℕ → Option ℤ
signed_of s = pick (ltb (length s) 1) None (pick (ltb 4 (length s)) None (Some (by_sign s)))
