-- `kinds::walk_request_at` meets its contract: the end of the input cuts the numbers, or the
-- file, or nothing, and then a table is over its limit, or none.
use mathlib.Core.Path.{refl}
use native.Mathlib.Omega.{arith}
use Rattle.requests.proofs.EachKind.{walk_cut, walk_numbers_over, walk_lines_over, walk_whole}
use Rattle.requests.proofs.kinds.walk_request_at.Goals as goal

pub returns-then-input-at-lt-WALK_HEAD : goal.returns-then-input-at-lt-WALK_HEAD
returns-then-input-at-lt-WALK_HEAD c = walk_cut _ _ _ _ _ refl refl refl (omega arith)

pub returns-then-input-from : goal.returns-then-input-from
returns-then-input-from c = walk_cut _ _ _ _ _ c.two_octets-numbers.ensures c.two_octets-lines.ensures c.four_octets-size.ensures (omega arith)

pub returns-then-numbers-gt-MOST_NUMBERS : goal.returns-then-numbers-gt-MOST_NUMBERS
returns-then-numbers-gt-MOST_NUMBERS c = walk_numbers_over _ _ _ _ _ c.two_octets-numbers.ensures c.two_octets-lines.ensures c.four_octets-size.ensures (omega arith) (omega arith)

pub returns-then-lines-gt-MOST_LINES : goal.returns-then-lines-gt-MOST_LINES
returns-then-lines-gt-MOST_LINES c = walk_lines_over _ _ _ _ _ c.two_octets-numbers.ensures c.two_octets-lines.ensures c.four_octets-size.ensures (omega arith) (omega arith) (omega arith)

pub returns : goal.returns
returns c = walk_whole _ _ _ _ _ c.two_octets-numbers.ensures c.two_octets-lines.ensures c.four_octets-size.ensures (omega arith) (omega arith) (omega arith)
