-- `kinds::payload_request_at` meets its contract: the end of the input cuts the numbers, or the
-- payload, or nothing, and then its fields are asked for, or when and where, by a reading or none.
use Rattle.std.specs.Prelude.{List, Option}
use Prim.Native.Nat.{ℕ, ◌+◌, ◌≤◌}
use mathlib.Core.Path.{◌≡◌, refl, sym, ◌∙◌}
use native.Mathlib.Omega.{arith}
use lib.ListN.{length, get_or}
use Rattle.octets.specs.BigEndian.{be_at}
use Rattle.products.specs.declared.templates.TemplateReading.{TemplateReading}
use Rattle.requests.specs.Requests.{reading_of, read_by, payload_kind, payload_request_at}
use Rattle.requests.specs.declared.Request.TheVariants as request
use Rattle.requests.specs.declared.kinds.PayloadKind.TheVariants.{Fields, WhenWhere}
use Rattle.requests.proofs.EachKind.{payload_cut, payload_whole}
use Rattle.requests.proofs.kinds.payload_request_at.Goals as goal

pub returns-then-input-at-lt-PAYLOAD_HEAD : goal.returns-then-input-at-lt-PAYLOAD_HEAD
returns-then-input-at-lt-PAYLOAD_HEAD c = payload_cut _ _ _ _ refl (omega arith)

pub returns-then-input-from : goal.returns-then-input-from
returns-then-input-from c = payload_cut _ _ _ _ c.four_octets-size.ensures (omega arith)

pub returns-in-Fields : goal.returns-in-Fields
returns-in-Fields c =
    rw c.in-Fields.is
    (payload_whole (payload_kind Fields) _ _ _ c.four_octets-size.ensures (omega arith))

-- a whole payload is one for the reading of its number
by_its_number : (s : List ℕ) (at size : ℕ) (reading : Option TemplateReading)
    → size ≡ be_at s (at + 2) 4 → at + 6 + size ≤ length s
    → reading ≡ reading_of (get_or s (at + 1) 0)
    → (read_by reading λ by. request.WhenWhere by (at + 6) (at + 6 + size))
    ≡ payload_request_at (payload_kind WhenWhere) s at
by_its_number s at size reading es h r =
    rw r (payload_whole (payload_kind WhenWhere) s at size es h)

pub returns-in_default : goal.returns-in_default
returns-in_default c =
    rw c.in-WhenWhere.is
    (by_its_number _ _ _ _ c.four_octets-size.ensures (omega arith)
    (sym c.in_default.is ∙ c.reading_of.ensures))

pub returns-in-Some : goal.returns-in-Some
returns-in-Some c =
    rw c.in-WhenWhere.is
    (by_its_number _ _ _ _ c.four_octets-size.ensures (omega arith)
    (sym c.in-Some.is ∙ c.reading_of.ensures))
