-- `end_of` meets its contract: a clean end or a refusal.
use Rattle.index.specs.Numbers.{end_of}
use Rattle.index.proofs.numbers.end_of.Goals as goal

pub returns-in-Ok : goal.returns-in-Ok
unfolding end_of
returns-in-Ok c = rw c.in-Ok.is

pub returns-in-Err : goal.returns-in-Err
unfolding end_of
returns-in-Err c = rw (c.refusal_detail.ensures, c.refusal_number.ensures, c.in-Err.is)
