-- `put_time_fields` meets its contract: there are unit and time, or there is neither.
use Rattle.std.specs.Prelude.{Option, Some, None}
use Prim.Native.Nat.{ℕ, ◌+◌, ◌≤◌, ◌<◌}
use native.Mathlib.Omega.{arith}
use mathlib.Core.Path.{◌≡◌}
use mathlib.Core.List.{List, ◌∷◌, ◌++◌}
use lib.ListN.{length}
use borrow.Author.Rules.{rules}
use Rattle.products.specs.declared.ForecastTime.{ForecastTime}
use Rattle.entries.specs.Decimal.{decimal}
use Rattle.entries.specs.Entries.{colon, none_text, unit_text, time_text}
use Rattle.entries.specs.Put.{PutBefore}
use Rattle.entries.proofs.Put.{put_then, number_field_room}
use Rattle.entries.proofs.line.put_time_fields.Goals as goal

module _ {time : Option ForecastTime} {end middle start : ℕ} {dest between exit : List ℕ} (room : end ≤ length dest) where
  given : {t : ForecastTime} → time ≡ Some t → t.unit < 256 → t.time < 4294967296
      → PutBefore end (colon ∷ decimal t.time) dest middle between
      → PutBefore middle (colon ∷ decimal t.unit) between start exit
      → (end ≤ start + 15) × PutBefore end ((colon ∷ unit_text time) ++ (colon ∷ time_text time)) dest start exit
  unfolding unit_text time_text
  given e one four put put' =
      let ten = number_field_room 9 (omega arith) (omega arith) put in
      let three = number_field_room 2 (omega arith) (omega arith) put' in
      (omega arith, rw e (put_then room put put'))

  absent : time ≡ None → PutBefore end (colon ∷ none_text) dest middle between
      → PutBefore middle (colon ∷ none_text) between start exit
      → PutBefore end ((colon ∷ unit_text time) ++ (colon ∷ time_text time)) dest start exit
  unfolding unit_text time_text
  absent e put put' = rw e (put_then room put put')

pub put_number_field-requires : goal.put_number_field-requires
put_number_field-requires c =
    let ten = number_field_room 9 (omega arith) (omega arith) c.put_number_field-at.ensures.text in
    (omega (arith, c.requires.0), search rules)

pub returns-in-Some : goal.returns-in-Some
returns-in-Some c =
    let both =
    given c.requires.1 c.in-Some.is (omega arith) (omega arith) c.put_number_field-at.ensures.text
    c.put_number_field.ensures.text in
    record { short = both.0; text = both.1 }

pub returns-in-None-clause-text : goal.returns-in-None-clause-text
returns-in-None-clause-text c =
    absent c.requires.1 c.in-None.is c.put_none_field-at.ensures c.put_none_field.ensures
