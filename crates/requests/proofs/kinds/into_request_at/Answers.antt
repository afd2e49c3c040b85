-- `kinds::into_request_at` meets its contract: the end of the input cuts the numbers, or the
-- file, or nothing, and then the destination is over its limit, or the request is one of the two.
use mathlib.Core.Path.{refl}
use native.Mathlib.Omega.{arith}
use Rattle.requests.specs.declared.Request.TheVariants.{Copy, Inventory}
use Rattle.requests.proofs.EachKind.{into_cut, into_room_over, into_whole}
use Rattle.requests.proofs.kinds.into_request_at.Goals as goal

pub returns-then-input-at-lt-INTO_HEAD : goal.returns-then-input-at-lt-INTO_HEAD
returns-then-input-at-lt-INTO_HEAD c = into_cut _ _ _ _ _ refl refl (omega arith)

pub returns-then-input-from : goal.returns-then-input-from
returns-then-input-from c =
    into_cut _ _ _ _ _ c.four_octets-room.ensures c.four_octets-octets.ensures (omega arith)

pub returns-then-room-gt-MOST_ROOM : goal.returns-then-room-gt-MOST_ROOM
returns-then-room-gt-MOST_ROOM c =
    into_room_over _ _ _ _ _ c.four_octets-room.ensures c.four_octets-octets.ensures
    (omega arith) (omega arith)

pub returns-in-Copy : goal.returns-in-Copy
returns-in-Copy c =
    rw c.in-Copy.is
    (into_whole Copy _ _ _ _ c.four_octets-room.ensures c.four_octets-octets.ensures
    (omega arith) (omega arith))

pub returns-in-Inventory : goal.returns-in-Inventory
returns-in-Inventory c =
    rw c.in-Inventory.is
    (into_whole Inventory _ _ _ _ c.four_octets-room.ensures c.four_octets-octets.ensures
    (omega arith) (omega arith))
