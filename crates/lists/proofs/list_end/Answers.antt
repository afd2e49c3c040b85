-- `list_end` meets its contract: one return for each end.
use Rattle.index.specs.Numbers.{end_of}
use Rattle.lists.specs.End.{list_end}
use Rattle.lists.proofs.list_end.Goals as goal

pub returns-in-Ok : goal.returns-in-Ok
unfolding list_end end_of
returns-in-Ok c = rw c.in-Ok.is

pub returns-in-Err-NotInForm : goal.returns-in-Err-NotInForm
unfolding list_end end_of
returns-in-Err-NotInForm c =
    let e = c.in-Err-NotInForm.is in
    let why = rw e at c.in-Err-NotInForm.field-0-is in
    rw (e, why)

pub returns-in-Err-TableFull : goal.returns-in-Err-TableFull
unfolding list_end end_of
returns-in-Err-TableFull c =
    let e = c.in-Err-TableFull.is in
    let why = rw e at c.in-Err-TableFull.field-0-is in
    rw (e, why)
