-- `buttresk_publish` meets its contract: the answer in numbers, and the destination that the public copy left.
use mathlib.Core.Path.{◌∙◌}
use Rattle.buttresk.proofs.storing.buttresk_publish.Goals as goal

pub returns : goal.returns
returns c =
    record {
      answer = c.from.ensures ∙ rw (c.copy_end.ensures, c.publish.ensures.answer);
      dest = c.publish.ensures.dest;
    }
