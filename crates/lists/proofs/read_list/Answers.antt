-- `read_list` meets its contract. The loop's invariant: the lines up to `at` are read, and their
-- entries stand in the table.
use native.Mathlib.Omega.{arith}
use lib.ListN.{drop, length-drop}
use Rattle.lists.specs.Line.{line_taken}
use Rattle.lists.proofs.Places.{answers}
use Rattle.lists.proofs.Lines.{told_full, told_not_taken, told_behind, some_left}
use Rattle.lists.proofs.Laws.{shorter}
use Rattle.lists.proofs.Turns.{start, one_more, ends}
use Rattle.lists.proofs.read_list.Goals as goal

pub loop-at-init : goal.loop-at-init
loop-at-init c = start _ _

pub returns-in_default : goal.returns-in_default
unfolding line_taken
returns-in_default c =
    let at = c.loop-at.at in
    let both = ends c.loop-at.invariant _ (told_not_taken _ _ _ (some_left _ at c.loop-at-test.true)
    (answers (line_taken _) c.line_at.ensures c.in_default.is)) in
    record { answer = both.0; table = both.1 }

pub returns-then-room-read : goal.returns-then-room-read
unfolding line_taken
returns-then-room-read c =
    let both = ends c.loop-at.invariant _
    (told_full _ _ _ (answers (line_taken _) c.line_at.ensures c.in-Some.is)
    c.if-room-read.true) in
    record { answer = both.0; table = both.1 }

pub loop-at-smaller : goal.loop-at-smaller
unfolding line_taken
loop-at-smaller c =
    let text = c.args.text.now in
    let next = c.in-Some.next in
    omega (
      arith,
      shorter (drop c.loop-at.at text)
          (answers (line_taken _) c.line_at.ensures c.in-Some.is),
      length-drop c.loop-at.at text,
      length-drop next text,
    )

pub loop-at-preserved : goal.loop-at-preserved
unfolding line_taken
loop-at-preserved c =
    one_more c.loop-at.invariant
    (answers (line_taken _) c.line_at.ensures c.in-Some.is)
    c.if-room-read.false c.put_entry.ensures

pub returns : goal.returns
returns c =
    let both = ends c.loop-at.invariant _ (told_behind _ _ _ _ c.loop-at-test.false) in
    record { answer = both.0; table = both.1 }
