-- `told` meets its contract: what its callees make of the line and of the next submessage.
use Rattle.walk.proofs.tally.told.Goals as goal

pub returns : goal.returns
returns c =
    simp (c.line_of.ensures, c.one_more-2.ensures, c.with_submessage-t.ensures, c.one_more.ensures)
