-- `kinds::list_request_at` meets its contract: the end of the input cuts the numbers, or the
-- text, or nothing, and then the table is over its limit, or not.
use mathlib.Core.Path.{refl}
use native.Mathlib.Omega.{arith}
use Rattle.requests.proofs.EachKind.{list_cut, list_room_over, list_whole}
use Rattle.requests.proofs.kinds.list_request_at.Goals as goal

pub returns-then-input-at-lt-LIST_HEAD : goal.returns-then-input-at-lt-LIST_HEAD
returns-then-input-at-lt-LIST_HEAD c = list_cut _ _ _ _ refl refl (omega arith)

pub returns-then-input-from : goal.returns-then-input-from
returns-then-input-from c = list_cut _ _ _ _ c.two_octets-room.ensures c.four_octets-octets.ensures (omega arith)

pub returns-then-room-gt-MOST_ENTRIES : goal.returns-then-room-gt-MOST_ENTRIES
returns-then-room-gt-MOST_ENTRIES c = list_room_over _ _ _ _ c.two_octets-room.ensures c.four_octets-octets.ensures (omega arith) (omega arith)

pub returns : goal.returns
returns c = list_whole _ _ _ _ c.two_octets-room.ensures c.four_octets-octets.ensures (omega arith) (omega arith)
