-- `walk` meets its contract: each turn of its loop leaves the tables as they are held.
use mathlib.Core.Path.{◌∙◌}
use native.Mathlib.Omega.{arith}
use Rattle.walk.proofs.Turns.{begun, next, on, ran}
use Rattle.walk.proofs.lines.walk.Goals as goal

pub loop-t-init : goal.loop-t-init
loop-t-init c = rw c.begin-t.ensures.tally (begun c.args.file.now c.args.rows.now c.args.lines.now c.begin-t.ensures.octets)

pub step-t-requires : goal.step-t-requires
step-t-requires c =
    (on c.args.file.now c.args.rows.now c.args.lines.now c.loop-t.t c.loop-t.rows c.loop-t.lines
    c.loop-t.invariant c.in-None.is).settled

pub loop-t-smaller : goal.loop-t-smaller
loop-t-smaller c =
    (next (omega arith) (omega arith) c.loop-t.auto.lines c.in-None.is c.loop-t.invariant
    c.step-t.ensures.tally c.step-t.ensures.table c.put_line.ensures).fewer

pub loop-t-preserved : goal.loop-t-preserved
loop-t-preserved c =
    (next (omega arith) (omega arith) c.loop-t.auto.lines c.in-None.is c.loop-t.invariant
    c.step-t.ensures.tally c.step-t.ensures.table c.put_line.ensures).held

pub returns-in-Some : goal.returns-in-Some
returns-in-Some c =
    let all = ran c.args.file.now c.args.rows.now c.args.lines.now c.loop-t.t c.loop-t.rows c.loop-t.lines
    c.loop-t.invariant c.in-Some.is in
    record { answer = c.conclude.ensures ∙ all.answer; rows = all.rows; lines = all.lines }
