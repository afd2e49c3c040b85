-- `spell` meets its contract: there is room for each piece, and all of them are the line.
use Prim.Native.Nat.{ℕ, ◌+◌, ◌≤◌, ◌<◌}
use native.Mathlib.Omega.{arith}
use mathlib.Core.List.{List, ◌∷◌}
use borrow.Author.Rules.{rules}
use Rattle.entries.specs.Decimal.{decimal}
use Rattle.entries.specs.Entries.{colon}
use Rattle.entries.specs.Put.{PutBefore}
use Rattle.entries.proofs.Put.{number_field_room}
use Rattle.entries.proofs.InTurn.{put_in_turn}
use Rattle.entries.proofs.line.spell.Goals as goal

-- what the octet of the discipline takes
discipline_room : {end n start : ℕ} {dest exit : List ℕ} → n < 256
    → PutBefore end (colon ∷ decimal n) dest start exit → end ≤ start + 4
discipline_room small put = number_field_room 2 (omega arith) (omega arith) put

pub put_number-start-requires : goal.put_number-start-requires
put_number-start-requires c =
    let discipline = discipline_room (omega arith) c.put_number_field-at.ensures.text in
    (omega arith, search rules)

pub returns : goal.returns
returns c =
    put_in_turn _ c.put_octet_field-at.ensures.text c.put_time_fields-at.ensures.text c.put_octet_field-at-2.ensures.text
    c.put_octet_field-at-3.ensures.text c.put_number_field-at.ensures.text c.put_number_field-at-2.ensures.text
    c.put_number_field-at-3.ensures.text c.put_number-start.ensures.text
