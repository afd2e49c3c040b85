-- `put_entry` meets its contract: the entry's numbers are stored, since there is room for them.
use Rattle.std.proofs.Common.{◌≡◌, length, ◌∙◌, arith, rules}
use Rattle.standing.proofs.Put.{numbers_there}
use Rattle.lists.proofs.table.put_entry.Goals as goal

pub returns : goal.returns
returns c =
    let a = c.args in
    let numbers = c.entry_numbers.result in
    let long : length numbers ≡ 13 = search rules in
    c.put_numbers.ensures
    ∙ numbers_there a.at numbers a.table.now (omega arith)
    ∙ rw c.entry_numbers.ensures
