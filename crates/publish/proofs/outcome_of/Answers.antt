-- `outcome_of` meets its contract: what is still to be told ends as the whole does.
use mathlib.Core.Path.{sym, ◌∙◌}
use native.Mathlib.Omega.{arith}
use Rattle.framing.proofs.OneRead.{goes}
use Rattle.reading.proofs.Untabled as steps
use Rattle.publish.proofs.Turns.{sees, counting, first_counting}
use Rattle.publish.proofs.outcome_of.Goals as goal

pub loop-section-init : goal.loop-section-init
loop-section-init c = rw (c.start-reading.ensures, c.unlisted-last.ensures) (first_counting c.args.file.now c.requires)

pub loop-section-smaller-in-Passes : goal.loop-section-smaller-in-Passes
loop-section-smaller-in-Passes c =
    let kept = c.loop-section.invariant in
    let p = steps.passes c.args.file.now c.requires _ _ kept.way.bounded (sees kept.way (sym c.look-seen.ensures ∙ c.in-Passes.is)) in
    let common = goes p.is_read in
    omega arith

pub loop-section-preserved-in-Passes : goal.loop-section-preserved-in-Passes
loop-section-preserved-in-Passes c =
    let kept = c.loop-section.invariant in
    counting c.args.file.now c.requires kept
    (steps.passes c.args.file.now c.requires _ _ kept.way.bounded (sees kept.way (sym c.look-seen.ensures ∙ c.in-Passes.is)))

pub loop-section-smaller : goal.loop-section-smaller
loop-section-smaller c =
    let kept = c.loop-section.invariant in
    let p = steps.closes c.args.file.now c.requires _ _ kept.way.bounded (sees kept.way (sym c.look-seen.ensures ∙ c.in-Closes.is)) in
    let common = goes p.is_read in
    omega arith

pub loop-section-preserved : goal.loop-section-preserved
loop-section-preserved c =
    let kept = c.loop-section.invariant in
    counting c.args.file.now c.requires kept
    (steps.closes c.args.file.now c.requires _ _ kept.way.bounded (sees kept.way (sym c.look-seen.ensures ∙ c.in-Closes.is)))

pub returns-in-Misplaced : goal.returns-in-Misplaced
returns-in-Misplaced c =
    let kept = c.loop-section.invariant in
    c.refused.ensures
    ∙ sym (sym kept.way.comes ∙ (steps.misplaced c.args.file.now c.requires _ _ kept.way.bounded
    (sees kept.way (sym c.look-seen.ensures ∙ c.in-Misplaced.is))).outcome ∙ rw kept.counted)

pub returns-in-NoGrid : goal.returns-in-NoGrid
returns-in-NoGrid c =
    let kept = c.loop-section.invariant in
    c.refused-in-NoGrid.ensures
    ∙ sym (sym kept.way.comes ∙ (steps.no_grid c.args.file.now c.requires _ _ kept.way.bounded
    (sees kept.way (sym c.look-seen.ensures ∙ c.in-NoGrid.is))).outcome ∙ rw kept.counted)

pub returns-in-Clean : goal.returns-in-Clean
returns-in-Clean c =
    let kept = c.loop-section.invariant in
    sym (sym kept.way.comes ∙ (steps.clean c.args.file.now c.requires _ _ kept.way.bounded
    (sees kept.way (sym c.look-seen.ensures ∙ c.in-Clean.is))).outcome)

pub returns-in-InputOver : goal.returns-in-InputOver
returns-in-InputOver c =
    let kept = c.loop-section.invariant in
    c.refused-in-InputOver.ensures
    ∙ sym (sym kept.way.comes ∙ (steps.input_over_lem c.args.file.now c.requires _ _ kept.way.bounded
    (sees kept.way (sym c.look-seen.ensures ∙ c.in-InputOver.is))).outcome ∙ rw kept.passed)

pub returns-in-Unreadable : goal.returns-in-Unreadable
returns-in-Unreadable c =
    let kept = c.loop-section.invariant in
    sym (sym kept.way.comes ∙ (steps.unreadable c.args.file.now c.requires _ _ kept.way.bounded
    (sees kept.way (sym c.look-seen.ensures ∙ c.in-Unreadable.is))).outcome ∙ rw kept.counted)
