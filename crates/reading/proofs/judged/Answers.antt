-- `judged` meets its contract: by what the order says.
use mathlib.Core.Path.{sym, ◌∙◌}
use Rattle.reading.specs.Reading.{seen_by_order}
use Rattle.reading.proofs.judged.Goals as goal

pub returns-in-Fits : goal.returns-in-Fits
unfolding seen_by_order
returns-in-Fits c = rw (sym c.judge_read-judged.ensures ∙ c.in-Fits.is)

pub returns-in-Closes : goal.returns-in-Closes
unfolding seen_by_order
returns-in-Closes c = rw (sym c.judge_read-judged.ensures ∙ c.in-Closes.is)

pub returns-in-Misplaced : goal.returns-in-Misplaced
unfolding seen_by_order
returns-in-Misplaced c = rw (sym c.judge_read-judged.ensures ∙ c.in-Misplaced.is)

pub returns-in-NoGrid : goal.returns-in-NoGrid
unfolding seen_by_order
returns-in-NoGrid c = rw (sym c.judge_read-judged.ensures ∙ c.in-NoGrid.is)
