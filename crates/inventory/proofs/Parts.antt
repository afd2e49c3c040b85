-- Parts of a list: what is past its end, up to its end, and in its middle; and octets put into one.
use mathlib.Core.Path.{◌≡◌, refl, sym, ap, ◌∙◌}
use mathlib.Core.List.{List, ◌++◌, append_assoc}
use Prim.Native.Nat.{ℕ, ◌+◌, ◌-◌, ◌≤◌, ◌<◌}
use native.Mathlib.Nat.{le_refl}
use native.Mathlib.Omega.{arith}
use lib.ListN.{length, take, drop, length-append, length-drop, drop_of_length-le}
use lib.Seq.{take_all, drop-length, take-nil, take_at, drop_at, drop-drop}
use Rattle.inventory.specs.Lines.{put_in_text}

-- past the end there is nothing
pub past : (s : List ℕ) (at : ℕ) → length s < at → take (length s - length s) (drop (length s) s) ≡ drop at s
past s at h = rw (drop-length, take-nil, drop_of_length-le s {i = at} (omega arith))

-- and no part of it
pub past_part : (s : List ℕ) (at n : ℕ) → length s < at → take (length s - length s) (drop (length s) s) ≡ take n (drop at s)
past_part s at n h = rw (drop-length, take-nil, drop_of_length-le s {i = at} (omega arith), take-nil)

-- a part to the end is all that is left
pub to_end : (s : List ℕ) (at : ℕ) → take (length s - at) (drop at s) ≡ drop at s
to_end s at = take_all (length s - at) (drop at s) (rw length-drop (le_refl _))

-- and a longer one is too
pub to_end_part : (s : List ℕ) (at n : ℕ) → length s - at < n → take (length s - at) (drop at s) ≡ take n (drop at s)
to_end_part s at n h = rw (to_end, take_all n (drop at s) (simp length-drop (omega arith)))

-- a part in the middle
pub middle : (s : List ℕ) (at n : ℕ) → take (at + n - at) (drop at s) ≡ take n (drop at s)
middle s at n = let same : at + n - at ≡ n = omega arith in rw same

-- what is put right after some octets is put with them
pub written_more : (text : List ℕ) (first then : List ℕ) → length first ≤ length text
    → put_in_text (put_in_text text 0 first) (length first) then ≡ put_in_text text 0 (first ++ then)
unfolding put_in_text
written_more text first then room =
    let n = length first in
    let after = drop (0 + n) text in
    let sum : (0 + n) + length then ≡ 0 + length (first ++ then) = simp length-append (omega arith) in
    let past : drop (n + length then) (first ++ after) ≡ drop (0 + length (first ++ then)) text =
    sym (drop-drop (length then) n (first ++ after))
    ∙ ap (drop (length then)) (drop_at first after n refl)
    ∙ drop-drop (length then) (0 + n) text
    ∙ ap (λ (k : ℕ). drop k text) sum in
    rw (take_at first after n refl, past, append_assoc)
