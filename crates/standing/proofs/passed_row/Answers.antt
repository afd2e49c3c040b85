-- `passed_row` meets its contract: the count that `one_more` gives, put with the rest.
use Rattle.standing.proofs.passed_row.Goals as goal

pub returns : goal.returns
returns c = rw c.one_more.ensures
