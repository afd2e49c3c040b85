-- `inventory_end` meets its contract: case by case.
use mathlib.Core.Path.{◌∙◌}
use Rattle.inventory.specs.End.{inventory_end}
use Rattle.inventory.proofs.inventory_end.Goals as goal

pub returns-in-Ok : goal.returns-in-Ok
unfolding inventory_end
returns-in-Ok c = c.stored.ensures ∙ rw c.in-Ok.is

pub returns-in-Err-Walk : goal.returns-in-Err-Walk
unfolding inventory_end
returns-in-Err-Walk c =
    let e = c.in-Err-Walk.is in
    let why = rw e at c.in-Err-Walk.field-0-is in
    rw (c.end_of.ensures, e, why)

pub returns-in-Err-TextTooSmall : goal.returns-in-Err-TextTooSmall
unfolding inventory_end
returns-in-Err-TextTooSmall c =
    let e = c.in-Err-TextTooSmall.is in
    let why = rw e at c.in-Err-TextTooSmall.field-0-is in
    c.unplaced.ensures ∙ rw (e, why)
