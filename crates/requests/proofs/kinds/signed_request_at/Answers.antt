-- `kinds::signed_request_at` meets its contract: the end of the input cuts the length, or the
-- octets, or nothing.
use native.Mathlib.Omega.{arith}
use Rattle.requests.proofs.EachKind.{signed_cut, signed_whole}
use Rattle.requests.proofs.kinds.signed_request_at.Goals as goal

pub returns-then-input-at-lt-SIGNED_HEAD : goal.returns-then-input-at-lt-SIGNED_HEAD
returns-then-input-at-lt-SIGNED_HEAD c = signed_cut _ _ (omega arith)

pub returns-then-input-from : goal.returns-then-input-from
returns-then-input-from c = signed_cut _ _ (omega arith)

pub returns : goal.returns
returns c = signed_whole _ _ (omega arith)
