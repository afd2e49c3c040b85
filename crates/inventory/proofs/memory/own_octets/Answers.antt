-- `own_octets` meets its contract: past the file, up to its end, or inside it.
use Rattle.index.specs.Decoded.{own_octets}
use Rattle.inventory.proofs.Parts.{past_part, to_end_part, middle}
use Rattle.inventory.proofs.memory.own_octets.Goals as goal

pub returns-then-file-from : goal.returns-then-file-from
unfolding own_octets
returns-then-file-from c = let a = c.args in past_part a.file.now a.section.offset.0 a.section.length c.if-file-from.true

pub returns-then-left-length : goal.returns-then-left-length
unfolding own_octets
returns-then-left-length c =
    let a = c.args in
    to_end_part a.file.now a.section.offset.0 a.section.length c.if-left-length.true

pub returns : goal.returns
unfolding own_octets
returns c = let a = c.args in middle a.file.now a.section.offset.0 a.section.length
