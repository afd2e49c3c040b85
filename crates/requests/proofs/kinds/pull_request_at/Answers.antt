-- `kinds::pull_request_at` meets its contract: the end of the input cuts the length, or the file,
-- or nothing.
use native.Mathlib.Omega.{arith}
use Rattle.requests.proofs.EachKind.{pull_cut, pull_whole}
use Rattle.requests.proofs.kinds.pull_request_at.Goals as goal

pub returns-then-input-at-lt-PULL_HEAD : goal.returns-then-input-at-lt-PULL_HEAD
returns-then-input-at-lt-PULL_HEAD c = pull_cut _ _ (omega arith)

pub returns-then-input-from : goal.returns-then-input-from
returns-then-input-from c = pull_cut _ _ (omega (arith, c.four_octets-size.ensures))

pub returns : goal.returns
returns c = pull_whole _ _ _ c.four_octets-size.ensures (omega arith)
