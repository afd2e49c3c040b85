-- `says` meets its contract: an octet that differs, or the answer of the last.
use Prim.Native.Nat.{ℕ, ◌+◌}
use mathlib.Core.Path.{◌≡◌}
use mathlib.Core.List.{List}
use lib.Dec.{eqb}
use lib.ListN.{get_or}
use borrow.Author.Tests.{eq-eqb, ne_eqb}
use Rattle.framing.specs.Search.{says}
use Rattle.framing.proofs.search.says.Goals as goal

-- where the first three are as asked, the last decides
last : (s : List ℕ) (at a b c d : ℕ) → get_or s at 0 ≡ a → get_or s (at + 1) 0 ≡ b → get_or s (at + 2) 0 ≡ c
    → eqb (get_or s (at + 3) 0) d ≡ says s at a b c d
unfolding says
last s at a b c d p q r = rw (eq-eqb _ _ p, eq-eqb _ _ q, eq-eqb _ _ r)

pub returns-then-file-at : goal.returns-then-file-at
unfolding says
returns-then-file-at c = simp (ne_eqb _ _ c.if-file-at.true)

pub returns-then-file-at-2 : goal.returns-then-file-at-2
unfolding says
returns-then-file-at-2 c = simp (eq-eqb _ _ c.if-file-at.false, ne_eqb _ _ c.if-file-at-2.true)

pub returns-then-file-at-3 : goal.returns-then-file-at-3
unfolding says
returns-then-file-at-3 c = simp (eq-eqb _ _ c.if-file-at.false, eq-eqb _ _ c.if-file-at-2.false, ne_eqb _ _ c.if-file-at-3.true)

pub returns : goal.returns
returns c = last _ _ _ _ _ _ c.if-file-at.false c.if-file-at-2.false c.if-file-at-3.false
