-- Numbers in decimal digits, each with one spelling: no leading zeros, no spaces (02, Ticket 1). A
-- character is given by its code; `0` is 48.
use Rattle.std.specs.Prelude.{ℕ, zero, suc, ◌+◌, ◌*◌, ◌/◌, ◌%◌, ◌<◌, List, [], ◌∷◌, ◌++◌, ltb}
use Rattle.octets.specs.Words.{pick}

-- a text spells a number: one digit does; and a digit behind the spelling of a number that is not 0
pub data Spelling : List ℕ → ℕ → Type 0 where
  digit : {d : ℕ} → d < 10 → Spelling ((48 + d) ∷ []) d
  behind : {front : List ℕ} {n d : ℕ} → Spelling front n → 0 < n → d < 10
      → Spelling (front ++ ((48 + d) ∷ [])) (n * 10 + d)

-- the spelling, computed: one digit, and so many more at most
unfoldable pub decimal_in : ℕ → ℕ → List ℕ
decimal_in zero n = (48 + n) ∷ []
decimal_in (suc more) n =
    let front = decimal_in more (n / 10) in
    pick (ltb n 10) ((48 + n) ∷ []) (front ++ ((48 + n % 10) ∷ []))

-- of every number of 64 bits: twenty digits are enough
unfoldable pub decimal : ℕ → List ℕ
decimal n = decimal_in 19 n
