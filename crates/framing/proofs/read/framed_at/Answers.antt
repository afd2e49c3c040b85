-- `framed_at` meets its contract: the tests before each return are those of `read_at`, and between messages the place found
-- is the one that `next_start` computes.
use Rattle.std.specs.Prelude.{Option, Some, None}
use Prim.Native.Nat.{ℕ}
use mathlib.Core.Path.{◌≡◌, ◌∙◌}
use mathlib.Core.List.{List}
use borrow.Author.Tests.{eq-eqb, ne_eqb, le-leb, lt-leb}
use Rattle.framing.specs.Search.{IsNextStart}
use Rattle.framing.specs.Framing.{message_at, read_at, framed}
use Rattle.framing.proofs.NextStart.{next_start_is, next_room}
use Rattle.framing.proofs.read.framed_at.Goals as goal

-- between messages, the read is made where `next_start` says
message : (file : List ℕ) (at rest : ℕ) (found is : Option ℕ) → rest ≡ 0 → IsNextStart file at found → found ≡ is
    → framed (message_at file is) ≡ framed (read_at file at rest)
unfolding read_at
message file at rest found is between first e = rw (eq-eqb _ _ between, ← (next_start_is file at found first), e)

pub indicator_at-requires : goal.indicator_at-requires
indicator_at-requires c = next_room _ _ _ c.next_start-found.ensures c.in-Some.is

pub returns-in-Some : goal.returns-in-Some
unfolding message_at
returns-in-Some c =
    c.indicator_at.ensures
    ∙ message _ _ _ c.next_start-found.result (Some _) c.if-rest-eq0.true c.next_start-found.ensures
    c.in-Some.is

pub returns-in-None : goal.returns-in-None
unfolding message_at
returns-in-None c =
    c.over.ensures
    ∙ message _ _ _ c.next_start-found.result None c.if-rest-eq0.true c.next_start-found.ensures
    c.in-None.is

pub returns-then-file-at : goal.returns-then-file-at
unfolding read_at
returns-then-file-at c = c.over-then-file-at.ensures ∙ simp (ne_eqb _ _ c.if-rest-eq0.false, le-leb _ _ c.if-file-at.true)

pub returns-then-rest : goal.returns-then-rest
unfolding read_at
returns-then-rest c =
    c.end_at.ensures
    ∙ simp (ne_eqb _ _ c.if-rest-eq0.false, lt-leb _ _ c.if-file-at.false, eq-eqb _ _ c.if-rest.true)

pub returns-else-rest : goal.returns-else-rest
unfolding read_at
returns-else-rest c =
    c.header_at.ensures
    ∙ simp (ne_eqb _ _ c.if-rest-eq0.false, lt-leb _ _ c.if-file-at.false, ne_eqb _ _ c.if-rest.false)
