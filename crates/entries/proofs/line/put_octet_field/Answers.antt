-- `put_octet_field` meets its contract: there is a number, or there is none.
use Rattle.std.specs.Prelude.{Option, Some, None}
use Prim.Native.Nat.{ℕ, ◌+◌, ◌≤◌, ◌<◌}
use native.Mathlib.Omega.{arith}
use mathlib.Core.Path.{◌≡◌}
use mathlib.Core.List.{List, ◌∷◌}
use Rattle.entries.specs.Decimal.{decimal}
use Rattle.entries.specs.Entries.{colon, none_text, octet_text}
use Rattle.entries.specs.Put.{PutBefore}
use Rattle.entries.proofs.Put.{number_field_room}
use Rattle.entries.proofs.line.put_octet_field.Goals as goal

module _ {octet : Option ℕ} {end start : ℕ} {dest exit : List ℕ} where
  given : {n : ℕ} → octet ≡ Some n → n < 256 → PutBefore end (colon ∷ decimal n) dest start exit
      → (end ≤ start + 5) × PutBefore end (colon ∷ octet_text octet) dest start exit
  unfolding octet_text
  given e small put = (omega (arith, number_field_room 2 (omega arith) (omega arith) put), rw e put)

  absent : octet ≡ None → PutBefore end (colon ∷ none_text) dest start exit
      → PutBefore end (colon ∷ octet_text octet) dest start exit
  unfolding octet_text
  absent e put = rw e put

pub returns-in-Some : goal.returns-in-Some
returns-in-Some c =
    let both = given c.in-Some.is (omega arith) c.put_number_field.ensures.text in
    record { short = both.0; text = both.1 }

pub returns-in-None-clause-text : goal.returns-in-None-clause-text
returns-in-None-clause-text c = absent c.in-None.is c.put_none_field.ensures
