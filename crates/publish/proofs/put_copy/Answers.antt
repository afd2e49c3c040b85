-- `put_copy` meets its contract: the copy stands up to the cursor, and at the end up to the file's.
use mathlib.Core.Path.{sym, ◌∙◌}
use Rattle.publish.proofs.Copies.{passing, copying_first, to_write, copying_turn, nearer, copying_last}
use Rattle.publish.proofs.put_copy.Goals as goal

pub loop-section-init : goal.loop-section-init
loop-section-init c = rw c.start-reading.ensures (copying_first c.args.file.now c.args.dest.now c.requires.0 c.requires.1)

pub put_section-requires : goal.put_section-requires
put_section-requires c =
    let kept = c.loop-section.invariant in
    to_write c.args.file.now c.args.dest.now c.requires.0 kept
    (passing c.args.file.now c.requires.0 _ kept.way (sym c.passed_at-passed.ensures ∙ c.in-Some.is)) c.requires.2

pub loop-section-smaller : goal.loop-section-smaller
loop-section-smaller c =
    let kept = c.loop-section.invariant in
    nearer c.args.file.now c.args.dest.now c.requires.0 kept
    (passing c.args.file.now c.requires.0 _ kept.way (sym c.passed_at-passed.ensures ∙ c.in-Some.is))

pub loop-section-preserved : goal.loop-section-preserved
loop-section-preserved c =
    let kept = c.loop-section.invariant in
    copying_turn c.args.file.now c.args.dest.now c.requires.0 kept
    (passing c.args.file.now c.requires.0 _ kept.way (sym c.passed_at-passed.ensures ∙ c.in-Some.is))
    c.put_section.ensures

pub returns-in-None : goal.returns-in-None
returns-in-None c =
    copying_last c.args.file.now c.args.dest.now c.requires.0 c.loop-section.invariant
    (sym c.passed_at-passed.ensures ∙ c.in-None.is) c.requires.2 c.blank.ensures
