-- `put_section` meets its contract: three runs, one behind the other.
use Rattle.publish.proofs.Values.{section_written}
use Rattle.publish.proofs.put_section.Goals as goal

pub returns : goal.returns
returns c =
    section_written c.args.file.now c.args.s c.args.done c.first_value.result c.requires.behind
    (c.first_value.ensures.within, c.first_value.ensures.from) c.blank.ensures c.keep.ensures c.blank-2.ensures
