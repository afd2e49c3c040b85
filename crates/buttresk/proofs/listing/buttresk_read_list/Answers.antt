-- `buttresk_read_list` meets its contract: the answer in numbers, and the table that the reader left.
use mathlib.Core.Path.{◌∙◌}
use Rattle.buttresk.proofs.listing.buttresk_read_list.Goals as goal

pub returns : goal.returns
returns c =
    record {
      answer = c.from.ensures ∙ rw c.read_list.ensures.answer;
      entries = c.read_list.ensures.table;
    }
