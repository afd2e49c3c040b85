-- `is_digit` meets its contract: below the digits, or the test of the last.
use borrow.Author.Tests.{lt-ltb, le-ltb}
use Rattle.lists.specs.Line.{is_digit}
use Rattle.lists.proofs.line.is_digit.Goals as goal

pub returns-then-octet-lt48 : goal.returns-then-octet-lt48
unfolding is_digit
returns-then-octet-lt48 c = simp (lt-ltb _ _ c.if-octet-lt48.true)

pub returns : goal.returns
unfolding is_digit
returns c = simp (le-ltb _ _ c.if-octet-lt48.false)
