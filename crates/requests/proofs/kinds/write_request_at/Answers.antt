-- `kinds::write_request_at` meets its contract: the end of the input cuts the numbers, or the
-- plan, or what is behind it, or nothing, and then the destination is over its limit, or not.
use mathlib.Core.Path.{refl}
use native.Mathlib.Omega.{arith}
use Rattle.requests.proofs.EachKind.{write_cut, write_room_over, write_whole}
use Rattle.requests.proofs.kinds.write_request_at.Goals as goal

pub returns-then-input-at-lt-WRITE_HEAD : goal.returns-then-input-at-lt-WRITE_HEAD
returns-then-input-at-lt-WRITE_HEAD c = write_cut _ _ _ _ _ refl refl refl (omega arith)

pub returns-then-input-plan : goal.returns-then-input-plan
returns-then-input-plan c = write_cut _ _ _ _ _ c.two_octets-sections.ensures refl refl (omega arith)

pub returns-then-input-store : goal.returns-then-input-store
returns-then-input-store c = write_cut _ _ _ _ _ c.two_octets-sections.ensures c.four_octets-size.ensures refl (omega arith)

pub returns-then-room-gt-MOST_ROOM : goal.returns-then-room-gt-MOST_ROOM
returns-then-room-gt-MOST_ROOM c =
    write_room_over _ _ _ _ _ c.two_octets-sections.ensures c.four_octets-size.ensures c.four_octets-room.ensures
    (omega arith) (omega arith)

pub returns : goal.returns
returns c =
    write_whole _ _ _ _ _ c.two_octets-sections.ensures c.four_octets-size.ensures c.four_octets-room.ensures
    (omega arith) (omega arith)
