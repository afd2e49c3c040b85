-- `put_at` meets its contract. The loop keeps that the octets so far are copied.
use Prim.Native.Nat.{ℕ, ◌+◌, ◌≤◌, ◌<◌}
use native.Mathlib.Omega.{arith}
use native.Mathlib.Numerals.{add-one}
use mathlib.Core.Path.{◌≡◌, ap, ◌∙◌}
use mathlib.Core.List.{List, append_assoc}
use lib.ListN.{length, get_or, set}
use lib.Seq.{paste, paste-suc, take_all}
use Rattle.inventory.specs.Lines.{put_in_text}
use Rattle.inventory.proofs.lines.put_at.Goals as goal

module _ (text : List ℕ) (at : ℕ) (line : List ℕ) {d : List ℕ} {i : ℕ}
    (copied : d ≡ paste text at line i) where
  on : at + length line ≤ length text → i < length line
      → set d (at + i) (get_or line i 0) ≡ paste text at line (i + 1)
  on room more = rw (copied, add-one) (paste-suc text at line i 0 (omega arith) more)

  ended : i ≡ length line → d ≡ put_in_text text at line
  unfolding put_in_text
  ended all =
      copied ∙ ap (paste text at line) all
      ∙ rw (take_all (length line) line (omega arith), append_assoc)

pub loop-i-preserved : goal.loop-i-preserved
loop-i-preserved c =
    let a = c.args in
    on a.text.now a.at a.line.now c.loop-i.invariant c.requires c.loop-i-test.true

pub returns : goal.returns
returns c =
    let a = c.args in
    ended a.text.now a.at a.line.now c.loop-i.invariant (omega arith)
