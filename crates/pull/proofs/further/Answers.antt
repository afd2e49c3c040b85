-- `further` meets its contract: the last place of all has none behind it.
use borrow.Author.Tests.{lt-ltb, le-ltb}
use Rattle.pull.specs.Calls.{further}
use Rattle.pull.proofs.further.Goals as goal

pub returns-then-place-lt18446744073709551615 : goal.returns-then-place-lt18446744073709551615
unfolding further
returns-then-place-lt18446744073709551615 c = simp (lt-ltb _ _ c.if-place-lt18446744073709551615.true)

pub returns : goal.returns
unfolding further
returns c = simp (le-ltb _ _ c.if-place-lt18446744073709551615.false)
