-- `unstarted` meets its contract: its callees' answers are put together.
use Rattle.walk.proofs.tally.unstarted.Goals as goal

pub returns : goal.returns
returns c = simp (c.unlisted.ensures, c.opened.ensures, c.start.ensures)
