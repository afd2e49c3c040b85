-- `line_numbers` meets its contract: each number is the line's.
use Rattle.walk_numbers.specs.Numbers.{line_numbers}
use Rattle.walk_numbers.proofs.columns.line_numbers.Goals as goal

pub returns : goal.returns
unfolding line_numbers
returns c = rw (c.place_or_0-2.ensures, c.place_or_0.ensures, c.is_there-2.ensures, c.is_there.ensures)
