-- `end_at` meets its contract: the file is cut, or has "7777", or has not.
use mathlib.Core.Path.{◌∙◌}
use borrow.Author.Tests.{lt-ltb, le-ltb}
use Rattle.framing.specs.Framing.{end_at}
use Rattle.framing.proofs.read.end_at.Goals as goal

pub returns-then-left-lt-WHOLE_SIZE : goal.returns-then-left-lt-WHOLE_SIZE
unfolding end_at
returns-then-left-lt-WHOLE_SIZE c = c.refuse.ensures ∙ simp (lt-ltb _ _ c.if-left-lt-WHOLE_SIZE.true)

pub returns-then-says : goal.returns-then-says
unfolding end_at
returns-then-says c = c.section_at.ensures ∙ simp (le-ltb _ _ c.if-left-lt-WHOLE_SIZE.false, ← c.says.ensures, c.if-says.true)

pub returns-else-says : goal.returns-else-says
unfolding end_at
returns-else-says c = c.refuse-else-says.ensures ∙ simp (le-ltb _ _ c.if-left-lt-WHOLE_SIZE.false, ← c.says.ensures, c.if-says.false)
