-- `is_wrong_size` meets its contract: each return's tests are those that `is_wrong_size` makes.
use Rattle.std.specs.Prelude.{Option, Some, None}
use Prim.Native.Nat.{ℕ, ◌≤◌, ◌<◌}
use mathlib.Core.Path.{◌≡◌, refl, sym, ◌∙◌}
use mathlib.Core.Bool.{Bool, true, false, ◌||◌}
use lib.Dec.{ltb}
use borrow.Author.Tests.{lt-ltb, le-ltb}
use Rattle.sections.specs.Kinds.{least_payload_of}
use Rattle.writer.specs.Plan.{Part, is_wrong_size}
use Rattle.writer.proofs.plan.is_wrong_size.Goals as goal

or_true : (a : Bool) {b : Bool} → b ≡ true → (a || b) ≡ true
or_true true e = refl
or_true false e = e

or_false : (a : Bool) {b : Bool} → b ≡ false → a ≡ (a || b)
or_false true e = refl
or_false false e = sym e

too_long : (part : Part) → 4294967290 < part.length → true ≡ is_wrong_size part
unfolding is_wrong_size
too_long part long = go (least_payload_of part.number) refl
  where
    go : (known : Option ℕ) → least_payload_of part.number ≡ known → true ≡ is_wrong_size part
    go (Some least) kind = rw kind (sym (or_true (ltb part.length least) (lt-ltb _ _ long)))
    go None kind = rw kind (sym (lt-ltb _ _ long))

module _ (part : Part) (fits : part.length ≤ 4294967290) where
  no_least : least_payload_of part.number ≡ None → false ≡ is_wrong_size part
  unfolding is_wrong_size
  no_least kind = rw (kind, le-ltb 4294967290 part.length fits)

  by_least : {least : _} → least_payload_of part.number ≡ Some least → ltb part.length least ≡ is_wrong_size part
  unfolding is_wrong_size
  by_least {least} kind = rw kind (or_false (ltb part.length least) (le-ltb 4294967290 part.length fits))

pub returns-then-octets-gt-MOST_PAYLOAD : goal.returns-then-octets-gt-MOST_PAYLOAD
returns-then-octets-gt-MOST_PAYLOAD c = too_long _ c.if-octets-gt-MOST_PAYLOAD.true

pub returns-in_default : goal.returns-in_default
returns-in_default c = no_least _ c.if-octets-gt-MOST_PAYLOAD.false (sym c.least_payload_of-known.ensures ∙ c.in_default.is)

pub returns : goal.returns
returns c = by_least _ c.if-octets-gt-MOST_PAYLOAD.false (sym c.least_payload_of-known.ensures ∙ c.in-Some.is)
