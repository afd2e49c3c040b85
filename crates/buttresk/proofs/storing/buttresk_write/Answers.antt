-- `buttresk_write` meets its contract: the answer in numbers, and the destination that the writer left.
use mathlib.Core.Path.{◌∙◌}
use Rattle.buttresk.proofs.storing.buttresk_write.Goals as goal

pub returns : goal.returns
returns c =
    record {
      answer = c.from.ensures ∙ rw (c.write_end.ensures, c.write.ensures.answer);
      dest = c.write.ensures.dest;
    }
