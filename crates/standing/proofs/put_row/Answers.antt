-- `put_row` meets its contract: three stores, one after the other, are three numbers in place of three; without room
-- for them nothing changes.
use Rattle.std.proofs.Common.{sym, ◌∙◌, arith, length-set}
use Rattle.standing.proofs.Put.{three_at, row_there, row_nowhere}
use Rattle.standing.proofs.put_row.Goals as goal

pub returns-then-room-place : goal.returns-then-room-place
returns-then-room-place c =
    let a = c.args in
    sym (row_nowhere a.place a.section a.rows.now (omega (arith, c.if-room-place.true)))

pub bounds-rows-i-2 : goal.bounds-rows-i-2
bounds-rows-i-2 c = simp length-set (omega (arith, c.if-room-place.false))

pub bounds-rows-i-3 : goal.bounds-rows-i-3
bounds-rows-i-3 c = simp length-set (omega (arith, c.if-room-place.false))

pub returns : goal.returns
returns c =
    let free = c.if-room-place.false in
    let a = c.args in
    three_at a.rows.now _ _ _ _ (omega (arith, free))
    ∙ sym (row_there a.place a.section a.rows.now (omega (arith, free)))
