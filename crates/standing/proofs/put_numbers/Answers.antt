-- `put_numbers` meets its contract: without room for the numbers nothing changes, else the loop
-- stores one after the other.
use Rattle.std.proofs.Common.{ℕ, List, sym, ap, ◌∙◌, arith, take_all}
use Rattle.standing.specs.Put.{put_at}
use Rattle.standing.proofs.Put.{put_none, next_put, numbers_there, numbers_nowhere}
use Rattle.standing.proofs.put_numbers.Goals as goal

pub returns-then-table-numbers : goal.returns-then-table-numbers
returns-then-table-numbers c =
    let a = c.args in
    sym (numbers_nowhere a.at a.numbers.now a.table.now (omega arith))

pub returns-then-table-numbers-2 : goal.returns-then-table-numbers-2
returns-then-table-numbers-2 c =
    let a = c.args in
    sym (numbers_nowhere a.at a.numbers.now a.table.now (omega arith))

pub loop-i-init : goal.loop-i-init
loop-i-init c = sym (put_none c.args.at c.args.table.now)

pub loop-i-preserved : goal.loop-i-preserved
loop-i-preserved c =
    let a = c.args in
    next_put a.at a.numbers.now a.table.now c.loop-i.i (omega arith) (omega arith)
    c.loop-i.invariant

pub returns : goal.returns
returns c =
    let a = c.args in
    c.loop-i.invariant
    ∙ ap (λ (l : List ℕ). put_at a.at l a.table.now)
    (take_all c.loop-i.i a.numbers.now (omega arith))
    ∙ sym (numbers_there a.at a.numbers.now a.table.now (omega arith))
