-- `missing` meets its contract: the file ends before the payload's stated end, or it does not.
use borrow.Author.Tests.{lt-ltb, le-ltb}
use Rattle.framing.specs.Framing.{missing}
use Rattle.framing.proofs.read.missing.Goals as goal

pub returns-then-left-stated : goal.returns-then-left-stated
unfolding missing
returns-then-left-stated c = simp (lt-ltb _ _ c.if-left-stated.true)

pub returns : goal.returns
unfolding missing
returns c = simp (le-ltb _ _ c.if-left-stated.false)
