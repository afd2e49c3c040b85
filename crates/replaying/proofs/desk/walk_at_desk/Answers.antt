-- `desk::walk_at_desk` meets its contract: the lines that are lent are the desk's first, and those
-- behind them are as before.
use Rattle.std.proofs.Common.{◌≡◌, ℕ, ◌-◌, ◌++◌, min, List, replicate, take, drop, ap, ◌∙◌, arith}
use Rattle.std.proofs.lemmas.List.{take-replicate, drop-replicate}
use Rattle.index.specs.declared.line.Line.{Line}
use Rattle.walk.specs.Tables.{walk_of}
use Rattle.replaying.specs.Desk.{unset, desk_walk, desk_lines}
use Rattle.replaying.proofs.desk.walk_at_desk.Goals as goal

-- the lines that are lent, and those behind them
front : (room most : ℕ) (line : Line) → most ≡ min room 512 → line ≡ unset
    → take most (replicate 512 line) ≡ replicate (min room 512) unset
front room most line e u = rw (e, u) (take-replicate (min room 512) 512 unset (omega arith))

behind : (room most : ℕ) (line : Line) → most ≡ min room 512 → line ≡ unset
    → drop most (replicate 512 line) ≡ replicate (512 - min room 512) unset
behind room most line e u = rw (e, u) (drop-replicate (min room 512) 512 unset)

pub returns-clause-answer : goal.returns-clause-answer
unfolding desk_walk
returns-clause-answer c =
    c.walk-answer.ensures.answer
    ∙ ap (λ (lines : List Line). (walk_of c.args.file.now c.args.rows.now lines).answer)
    (front c.args.room c.min-most.result c.unset_line-unset.result
    c.min-most.ensures c.unset_line-unset.ensures)

pub returns-clause-rows : goal.returns-clause-rows
unfolding desk_walk
returns-clause-rows c =
    c.walk-answer.ensures.rows
    ∙ ap (λ (lines : List Line). (walk_of c.args.file.now c.args.rows.now lines).rows)
    (front c.args.room c.min-most.result c.unset_line-unset.result
    c.min-most.ensures c.unset_line-unset.ensures)

-- both parts of the table
joined : (file rows : List ℕ) (room : ℕ) (lines lent rest : List Line) → lent ≡ replicate (min room 512) unset
    → lines ≡ (walk_of file rows lent).lines → rest ≡ replicate (512 - min room 512) unset
    → lines ++ rest ≡ desk_lines file rows room
unfolding desk_lines desk_walk
joined file rows room lines lent rest l e r = rw (e, l, r)

pub returns-clause-lines : goal.returns-clause-lines
returns-clause-lines c =
    joined c.args.file.now c.args.rows.now c.args.room c.walk-answer.new.lines _ _
    (front c.args.room c.min-most.result c.unset_line-unset.result
    c.min-most.ensures c.unset_line-unset.ensures)
    c.walk-answer.ensures.lines
    (behind c.args.room c.min-most.result c.unset_line-unset.result
    c.min-most.ensures c.unset_line-unset.ensures)
