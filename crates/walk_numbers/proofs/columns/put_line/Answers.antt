-- `put_line` meets its contract: the line's numbers are stored, since there is room at its slot.
use Rattle.std.proofs.Common.{◌≡◌, ◌*◌, length, ◌∙◌, arith, rules}
use Rattle.standing.proofs.Put.{numbers_there}
use Rattle.walk_numbers.proofs.columns.put_line.Goals as goal

pub returns : goal.returns
returns c =
    let a = c.args in
    let numbers = c.line_numbers.result in
    let long : length numbers ≡ 15 = search rules in
    c.put_numbers.ensures
    ∙ numbers_there (a.slot * 15) numbers a.lines.now (omega arith)
    ∙ rw c.line_numbers.ensures
