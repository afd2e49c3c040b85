-- `octet_numbers` meets its contract: there is a value, or there is none.
use Rattle.lists.specs.Lists.{octet_numbers}
use Rattle.lists.proofs.table.octet_numbers.Goals as goal

pub returns-in-Some : goal.returns-in-Some
unfolding octet_numbers
returns-in-Some c = rw c.in-Some.is

pub returns-in-None : goal.returns-in-None
unfolding octet_numbers
returns-in-None c = rw c.in-None.is
