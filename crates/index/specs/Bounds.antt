-- How long a file may be, and how much room there is where no table is lent (01, "Refusal
-- numbers").
use Rattle.std.specs.Prelude.{ℕ}
use Rattle.index.specs.declared.bounds.Room.{Room}

-- a file is at most 2^40 octets
abbrev pub most_octets : ℕ
most_octets = 1099511627776

-- where no table is lent: more room than any file asks for
abbrev pub unlimited : Room
unlimited = record { rows = 18446744073709551615; lines = 18446744073709551615 }
