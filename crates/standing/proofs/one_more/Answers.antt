-- `one_more` meets its contract: the count is below its end, or at it.
use Rattle.std.proofs.Common.{sym, arith}
use Rattle.standing.proofs.Passed.{more, stays}
use Rattle.standing.proofs.one_more.Goals as goal

pub returns-then-n-lt18446744073709551615 : goal.returns-then-n-lt18446744073709551615
returns-then-n-lt18446744073709551615 c = sym (more c.args.n (omega (arith, c.if-n-lt18446744073709551615.true)))

pub returns : goal.returns
returns c = sym (stays c.args.n (omega (arith, c.if-n-lt18446744073709551615.false)))
