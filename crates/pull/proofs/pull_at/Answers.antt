-- `pull_at` meets its contract: the end was told, the file is too long, or by what is seen.
use mathlib.Core.Path.{◌≡◌, sym, ◌∙◌}
use mathlib.Core.Bool.{false}
use mathlib.Core.List.{List}
use Prim.Native.Nat.{ℕ, ◌≤◌}
use lib.ListN.{length}
use borrow.Author.Tests.{lt-ltb, le-ltb}
use Rattle.index.specs.Bounds.{most_octets}
use Rattle.reading.specs.Reading.{seen}
use Rattle.reading.specs.declared.Seen.{Seen}
use Rattle.pull.specs.declared.Progress.{Progress}
use Rattle.pull.specs.Calls.{pull_by, pull_at}
use Rattle.pull.proofs.pull_at.Goals as goal

-- a call that looks
a_call : (file : List ℕ) (p : Progress) → p.over ≡ false → length file ≤ most_octets → {v : Seen} → seen file p.reading ≡ v
    → pull_by p v ≡ pull_at file p
unfolding pull_at
a_call file p going fits e = rw (going, le-ltb most_octets (length file) fits, e)

pub returns-then-progress : goal.returns-then-progress
unfolding pull_at pull_by
returns-then-progress c = simp c.if-progress.true

pub returns-then-file-gt-MOST_OCTETS : goal.returns-then-file-gt-MOST_OCTETS
unfolding pull_at pull_by
returns-then-file-gt-MOST_OCTETS c = c.stop.ensures ∙ simp (c.if-progress.false, lt-ltb _ _ c.if-file-gt-MOST_OCTETS.true)

pub returns-in-Passes : goal.returns-in-Passes
unfolding pull_at pull_by
returns-in-Passes c = c.hand_out.ensures ∙ a_call _ _ c.if-progress.false c.if-file-gt-MOST_OCTETS.false (sym c.look-seen.ensures ∙ c.in-Passes.is)

pub returns-in-Closes : goal.returns-in-Closes
unfolding pull_at pull_by
returns-in-Closes c = c.hand_out-in-Closes.ensures ∙ a_call _ _ c.if-progress.false c.if-file-gt-MOST_OCTETS.false (sym c.look-seen.ensures ∙ c.in-Closes.is)

pub returns-in-Misplaced : goal.returns-in-Misplaced
unfolding pull_at pull_by
returns-in-Misplaced c = c.refuse.ensures ∙ a_call _ _ c.if-progress.false c.if-file-gt-MOST_OCTETS.false (sym c.look-seen.ensures ∙ c.in-Misplaced.is)

pub returns-in-NoGrid : goal.returns-in-NoGrid
unfolding pull_at pull_by
returns-in-NoGrid c = c.refuse-in-NoGrid.ensures ∙ a_call _ _ c.if-progress.false c.if-file-gt-MOST_OCTETS.false (sym c.look-seen.ensures ∙ c.in-NoGrid.is)

pub returns-in-Clean : goal.returns-in-Clean
unfolding pull_at pull_by
returns-in-Clean c = c.stop-in-Clean.ensures ∙ a_call _ _ c.if-progress.false c.if-file-gt-MOST_OCTETS.false (sym c.look-seen.ensures ∙ c.in-Clean.is)

pub returns-in-InputOver : goal.returns-in-InputOver
unfolding pull_at pull_by
returns-in-InputOver c = c.refuse-in-InputOver.ensures ∙ a_call _ _ c.if-progress.false c.if-file-gt-MOST_OCTETS.false (sym c.look-seen.ensures ∙ c.in-InputOver.is)

pub returns-in-Unreadable : goal.returns-in-Unreadable
unfolding pull_at pull_by
returns-in-Unreadable c = c.stop-in-Unreadable.ensures ∙ a_call _ _ c.if-progress.false c.if-file-gt-MOST_OCTETS.false (sym c.look-seen.ensures ∙ c.in-Unreadable.is)
