-- `put_entry` meets its contract: an entry's line is the end of what is spelled.
use Prim.Native.Nat.{ℕ, ◌-◌, ◌≤◌}
use native.Mathlib.Omega.{arith}
use borrow.Author.Rules.{rules}
use mathlib.Core.Path.{◌≡◌, sym, ap, subst, ◌∙◌}
use mathlib.Core.List.{List, ◌++◌}
use lib.ListN.{length, take, drop, replicate, length-append, length-replicate}
use lib.Seq.{drop_at, take_all}
use Rattle.entries.specs.Entries.{entry_line, spelled_of}
use Rattle.entries.specs.declared.Spelled.{Spelled}
use Rattle.entries.specs.declared.Entry.{Entry}
use Rattle.inventory.specs.Lines.{PutText}
use Rattle.inventory.proofs.lines.put_entry.Goals as goal

starts : {line : Spelled} (e : Entry) → line ≡ spelled_of e → line.start ≤ 98
unfolding spelled_of
starts e is = omega (arith, ap (λ (l : Spelled). l.start) is)

-- what is behind the zeros is the line
behind_zeros : (line : List ℕ) → length line ≤ 98 → take (98 - (98 - length line)) (drop (98 - length line) (replicate (98 - length line) 0 ++ line)) ≡ line
behind_zeros line short =
    let n = 98 - length line in
    rw (drop_at (replicate n 0) line n (length-replicate n 0)) (take_all (98 - n) line (omega arith))

is_line : {line : Spelled} (e : Entry) → line ≡ spelled_of e → length line.octets ≡ 98
    → take (98 - line.start) (drop line.start line.octets) ≡ entry_line e
unfolding spelled_of
is_line {line} e is long =
    let whole : length (replicate (98 - length (entry_line e)) 0 ++ entry_line e) ≡ 98 = sym (ap (λ (l : Spelled). length l.octets) is) ∙ long in
    let parts = length-append (replicate (98 - length (entry_line e)) 0) (entry_line e) in
    let zeros = length-replicate {A = ℕ} (98 - length (entry_line e)) 0 in
    ap (λ (l : Spelled). take (98 - l.start) (drop l.start l.octets)) is ∙ behind_zeros (entry_line e) (omega arith)

as_line : {line same text text' : List ℕ} {at end : ℕ} → line ≡ same → PutText line at text text' end → PutText same at text text' end
as_line {text = text} {text' = text'} {at = at} {end = end} e put = subst (λ (l : List ℕ). PutText l at text text' end) e put

pub slice_bounds-put_line-count : goal.slice_bounds-put_line-count
slice_bounds-put_line-count c = starts _ c.spell-line.ensures

pub slice_bounds-put_line-start : goal.slice_bounds-put_line-start
slice_bounds-put_line-start c = let low = starts _ c.spell-line.ensures in search rules

pub returns : goal.returns
returns c =
    let long : length c.spell-line.result.octets ≡ 98 = search rules in
    as_line (is_line _ c.spell-line.ensures long) c.put_line.ensures
