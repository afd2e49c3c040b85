-- `remembered` meets its contract: by what was due.
use mathlib.Core.Path.{◌∙◌}
use Rattle.inventory.specs.Memory.{remembered}
use Rattle.inventory.proofs.memory.remembered.Goals as goal

pub returns-in-NoLine : goal.returns-in-NoLine
unfolding remembered
returns-in-NoLine c = c.with_section.ensures ∙ rw c.in-NoLine.is

pub returns-in-Line : goal.returns-in-Line
unfolding remembered
returns-in-Line c = c.with_section-in-Line.ensures ∙ rw c.in-Line.is

pub returns-in-LastLine : goal.returns-in-LastLine
unfolding remembered
returns-in-LastLine c = rw c.in-LastLine.is
