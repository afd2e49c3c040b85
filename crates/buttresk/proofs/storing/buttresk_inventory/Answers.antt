-- `buttresk_inventory` meets its contract: the answer in numbers, and the buffer that the inventory left.
use mathlib.Core.Path.{◌∙◌}
use Rattle.buttresk.proofs.storing.buttresk_inventory.Goals as goal

pub returns : goal.returns
returns c =
    record {
      answer = c.from.ensures ∙ rw (c.inventory_end.ensures, c.inventory.ensures.answer);
      text = c.inventory.ensures.text;
    }
