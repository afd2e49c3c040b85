-- `misplaced` meets its contract: by whether the section completes a submessage, and whether there is room for its line.
use mathlib.Core.Path.{sym, ◌∙◌}
use borrow.Author.Tests.{le-leb, lt-leb}
use Rattle.walk_numbers.specs.Moves.{misplaced_answer, misplaced_lines}
use Rattle.walk_numbers.proofs.numbers.misplaced.Goals as goal

pub returns-then-room-at : goal.returns-then-room-at
unfolding misplaced_answer misplaced_lines
returns-then-room-at c =
    let behind = sym c.completes.ensures ∙ c.if-completes.true in
    let none = le-leb _ _ c.if-room-at.true in
    record { answer = c.refused.ensures ∙ rw (behind, none); lines = rw (behind, none) }

pub returns-then-completes : goal.returns-then-completes
unfolding misplaced_answer misplaced_lines
returns-then-completes c =
    let behind = sym c.completes.ensures ∙ c.if-completes.true in
    let left = lt-leb _ _ c.if-room-at.false in
    record { answer = c.refused-then-completes.ensures ∙ rw (c.told_line.ensures, behind, left); lines = c.put_line.ensures ∙ rw (behind, left) }

pub returns : goal.returns
unfolding misplaced_answer misplaced_lines
returns c =
    let alone = sym c.completes.ensures ∙ c.if-completes.false in
    record { answer = c.refused-2.ensures ∙ rw alone; lines = rw alone }
