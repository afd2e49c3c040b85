-- `kinds::offsets_request_at` meets its contract: the end of the input cuts the numbers, the first
-- names no reading, or it names one.
use native.Mathlib.Omega.{arith}
use mathlib.Core.Path.{refl, sym, ◌∙◌}
use Rattle.requests.proofs.EachKind.{offsets_cut, offsets_read}
use Rattle.requests.proofs.kinds.offsets_request_at.Goals as goal

pub returns-then-input-at-lt-OFFSETS_HEAD : goal.returns-then-input-at-lt-OFFSETS_HEAD
returns-then-input-at-lt-OFFSETS_HEAD c = offsets_cut _ _ (omega arith)

pub returns-in_default : goal.returns-in_default
returns-in_default c =
    offsets_read _ _ _ _ (sym c.in_default.is ∙ c.reading_of.ensures)
    refl (omega arith)

pub returns : goal.returns
returns c =
    offsets_read _ _ _ _
    (sym c.in-Some.is ∙ c.reading_of.ensures)
    c.two_octets.ensures (omega arith)
