-- `put_lines` meets its contract: the lines so far are written, and those to come make up the rest.
use mathlib.Core.Path.{sym, ap, ◌∙◌}
use Rattle.inventory.specs.Turn.{due_by}
use Rattle.inventory.proofs.Turns.{
  first,
  by_seen_lem,
  few_before,
  nearer,
  due_told,
  no_line,
  a_line,
  remembers_0,
  remembers_4,
  remembers_none,
  remembering,
  stops,
  turn,
  ended,
}
use Rattle.inventory.proofs.lines.put_lines.Goals as goal

pub loop-section-init : goal.loop-section-init
loop-section-init c =
    rw (c.start-reading.ensures, c.unlisted-last.ensures, c.blank-memory.ensures)
    (first c.args.file.now c.args.text.now c.requires.1)

-- a section that passes, what the turn tells: it completes a submessage
pub remembered-with_it-requires : goal.remembered-with_it-requires
remembered-with_it-requires c =
    let file = c.args.file.now in
    let text = c.args.text.now in
    let fits = c.requires.1 in
    let so_far = c.loop-section.invariant in
    let seen =
    by_seen_lem file text fits so_far _ (sym c.look-seen.ensures ∙ c.in-Passes.is) in
    few_before file text fits so_far seen

pub loop-section-smaller-then-completing : goal.loop-section-smaller-then-completing
loop-section-smaller-then-completing c =
    let file = c.args.file.now in
    let text = c.args.text.now in
    let fits = c.requires.1 in
    let so_far = c.loop-section.invariant in
    let seen =
    by_seen_lem file text fits so_far _ (sym c.look-seen.ensures ∙ c.in-Passes.is) in
    nearer file text fits so_far seen

pub loop-section-preserved-then-completing : goal.loop-section-preserved-then-completing
loop-section-preserved-then-completing c =
    let file = c.args.file.now in
    let text = c.args.text.now in
    let fits = c.requires.1 in
    let so_far = c.loop-section.invariant in
    let seen =
    by_seen_lem file text fits so_far _ (sym c.look-seen.ensures ∙ c.in-Passes.is) in
    rw c.remembered-with_it.ensures
    (turn file text fits so_far
    (due_told (ap due_by (sym c.if-completing.true ∙ c.completing.ensures)) seen)
    (a_line file c.loop-section.memory c.put_memory-octets.ensures).0)

-- it completes none: a section 0, a section 4, another
pub loop-section-smaller-then-section-eq-NUMBER : goal.loop-section-smaller-then-section-eq-NUMBER
loop-section-smaller-then-section-eq-NUMBER c =
    let file = c.args.file.now in
    let text = c.args.text.now in
    let fits = c.requires.1 in
    let so_far = c.loop-section.invariant in
    let seen =
    by_seen_lem file text fits so_far _ (sym c.look-seen.ensures ∙ c.in-Passes.is) in
    nearer file text fits so_far seen

pub loop-section-preserved-then-section-eq-NUMBER : goal.loop-section-preserved-then-section-eq-NUMBER
loop-section-preserved-then-section-eq-NUMBER c =
    let file = c.args.file.now in
    let text = c.args.text.now in
    let fits = c.requires.1 in
    let so_far = c.loop-section.invariant in
    let seen =
    by_seen_lem file text fits so_far _ (sym c.look-seen.ensures ∙ c.in-Passes.is) in
    remembering (remembers_0 c.loop-section.memory _ c.if-section-eq-NUMBER.true)
    (turn file text fits so_far
    (due_told (ap due_by (sym c.if-completing.false ∙ c.completing.ensures)) seen)
    (no_line file c.loop-section.memory c.loop-section.octets c.loop-section.text))

pub loop-section-smaller-then-section-eq-NUMBER-2 : goal.loop-section-smaller-then-section-eq-NUMBER-2
loop-section-smaller-then-section-eq-NUMBER-2 c =
    let file = c.args.file.now in
    let text = c.args.text.now in
    let fits = c.requires.1 in
    let so_far = c.loop-section.invariant in
    let seen =
    by_seen_lem file text fits so_far _ (sym c.look-seen.ensures ∙ c.in-Passes.is) in
    nearer file text fits so_far seen

pub loop-section-preserved-then-section-eq-NUMBER-2 : goal.loop-section-preserved-then-section-eq-NUMBER-2
loop-section-preserved-then-section-eq-NUMBER-2 c =
    let file = c.args.file.now in
    let text = c.args.text.now in
    let fits = c.requires.1 in
    let so_far = c.loop-section.invariant in
    let seen =
    by_seen_lem file text fits so_far _ (sym c.look-seen.ensures ∙ c.in-Passes.is) in
    remembering (remembers_4 c.loop-section.memory _ c.if-section-eq-NUMBER.false c.if-section-eq-NUMBER-2.true)
    (turn file text fits so_far
    (due_told (ap due_by (sym c.if-completing.false ∙ c.completing.ensures)) seen)
    (no_line file c.loop-section.memory c.loop-section.octets c.loop-section.text))

pub loop-section-smaller-else-section-eq-NUMBER-2 : goal.loop-section-smaller-else-section-eq-NUMBER-2
loop-section-smaller-else-section-eq-NUMBER-2 c =
    let file = c.args.file.now in
    let text = c.args.text.now in
    let fits = c.requires.1 in
    let so_far = c.loop-section.invariant in
    let seen =
    by_seen_lem file text fits so_far _ (sym c.look-seen.ensures ∙ c.in-Passes.is) in
    nearer file text fits so_far seen

pub loop-section-preserved-else-section-eq-NUMBER-2 : goal.loop-section-preserved-else-section-eq-NUMBER-2
loop-section-preserved-else-section-eq-NUMBER-2 c =
    let file = c.args.file.now in
    let text = c.args.text.now in
    let fits = c.requires.1 in
    let so_far = c.loop-section.invariant in
    let seen =
    by_seen_lem file text fits so_far _ (sym c.look-seen.ensures ∙ c.in-Passes.is) in
    remembering (remembers_none c.loop-section.memory _ c.if-section-eq-NUMBER.false c.if-section-eq-NUMBER-2.false)
    (turn file text fits so_far
    (due_told (ap due_by (sym c.if-completing.false ∙ c.completing.ensures)) seen)
    (no_line file c.loop-section.memory c.loop-section.octets c.loop-section.text))

-- a section that closes its message
pub remembered-memory-requires : goal.remembered-memory-requires
remembered-memory-requires c =
    let file = c.args.file.now in
    let text = c.args.text.now in
    let fits = c.requires.1 in
    let so_far = c.loop-section.invariant in
    let seen =
    by_seen_lem file text fits so_far _ (sym c.look-seen.ensures ∙ c.in-Closes.is) in
    few_before file text fits so_far seen

pub loop-section-smaller : goal.loop-section-smaller
loop-section-smaller c =
    let file = c.args.file.now in
    let text = c.args.text.now in
    let fits = c.requires.1 in
    let so_far = c.loop-section.invariant in
    let seen =
    by_seen_lem file text fits so_far _ (sym c.look-seen.ensures ∙ c.in-Closes.is) in
    nearer file text fits so_far seen

pub loop-section-preserved : goal.loop-section-preserved
loop-section-preserved c =
    let file = c.args.file.now in
    let text = c.args.text.now in
    let fits = c.requires.1 in
    let so_far = c.loop-section.invariant in
    let seen =
    by_seen_lem file text fits so_far _ (sym c.look-seen.ensures ∙ c.in-Closes.is) in
    rw c.remembered-memory.ensures
    (turn file text fits so_far seen
    (a_line file c.loop-section.memory c.put_memory-octets-in-Closes.ensures).1)

-- anything else ends the walk
pub returns-in_default : goal.returns-in_default
returns-in_default c =
    let file = c.args.file.now in
    let text = c.args.text.now in
    rw c.stopped-outcome.ensures
    (ended file text c.requires.1 c.loop-section.invariant
    (stops file text c.requires.1 c.loop-section.invariant _ (sym c.look-seen.ensures)
    c.in_default.not-Passes c.in_default.not-Closes))
