-- `end_ahead` meets its contract: where all tests pass, section 8 is read and closes its message.
use mathlib.Core.Path.{sym, ◌∙◌}
use Rattle.framing.specs.Search.{says}
use Rattle.order.specs.Order.{judged, is_between, judged_read}
use Rattle.reading.specs.Glance.{Glanced}
use Rattle.reading.proofs.Whole.{end_reads}
use Rattle.reading.proofs.quick.end_ahead.Goals as goal

pub returns-in_default : goal.returns-in_default
unfolding Glanced
returns-in_default c = tt

pub returns-then-cursor : goal.returns-then-cursor
unfolding Glanced
returns-then-cursor c = tt

pub returns-then-file-at : goal.returns-then-file-at
unfolding Glanced
returns-then-file-at c = tt

pub returns-then-file-at-lt-WHOLE_SIZE : goal.returns-then-file-at-lt-WHOLE_SIZE
unfolding Glanced
returns-then-file-at-lt-WHOLE_SIZE c = tt

pub returns-then-not-is_end_mark : goal.returns-then-not-is_end_mark
unfolding Glanced
returns-then-not-is_end_mark c = tt

pub returns : goal.returns
unfolding Glanced judged_read judged is_between says
returns c =
    record {
      reads =
          end_reads c.args.file.now c.args.cursor.at.0 c.args.cursor.rest c.if-cursor.false c.if-file-at.false
          c.if-file-at-lt-WHOLE_SIZE.false (sym c.is_end_mark.ensures ∙ c.if-not-is_end_mark.false);
      closes = rw c.in-AfterData.is;
    }
