-- `put_none_field` meets its contract: five octets, each right after the other.
use Prim.Native.Nat.{ℕ, ◌+◌, ◌-◌, ◌≤◌}
use native.Mathlib.Omega.{arith}
use native.Mathlib.Numerals.{towards_suc}
use mathlib.Core.Path.{◌≡◌, ap, ◌∙◌}
use mathlib.Core.List.{List, [], ◌∷◌, ◌++◌, append_assoc}
use lib.ListN.{length, take, drop, set}
use lib.Seq.{sets, sets-eq}
use Rattle.entries.specs.Put.{PutBefore}
use Rattle.entries.proofs.line.put_none_field.Goals as goal

five : (dest : List ℕ) (end a b c d e : ℕ) → 5 ≤ end → end ≤ length dest
    → let at = end - 5 in
    PutBefore end (a ∷ b ∷ c ∷ d ∷ e ∷ []) dest at
    (set (set (set (set (set dest at a) (at + 1) b) (at + 2) c) (at + 3) d) (at + 4) e)
five dest end a b c d e some room =
    let at = end - 5 in
    let whole : at + 5 ≡ end = omega arith in
    let stored : set (set (set (set (set dest at a) (at + 1) b) (at + 2) c) (at + 3) d) (at + 4) e ≡ sets dest at (a ∷ b ∷ c ∷ d ∷ e ∷ []) =
    simp towards_suc in
    let split : sets dest at (a ∷ b ∷ c ∷ d ∷ e ∷ []) ≡ take at dest ++ ((a ∷ b ∷ c ∷ d ∷ e ∷ []) ++ drop (at + 5) dest) =
    sets-eq (a ∷ b ∷ c ∷ d ∷ e ∷ []) dest at (omega arith) ∙ append_assoc (take at dest) (a ∷ b ∷ c ∷ d ∷ e ∷ []) (drop (at + 5) dest) in
    record {
      starts = whole;
      same = stored ∙ split ∙ ap (λ (n : ℕ). take at dest ++ ((a ∷ b ∷ c ∷ d ∷ e ∷ []) ++ drop n dest)) whole;
    }

pub returns : goal.returns
returns c = five _ _ _ _ _ _ _ c.requires.0 c.requires.1
