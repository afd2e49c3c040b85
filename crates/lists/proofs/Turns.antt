-- The turns of `read_list`: the lines read so far are told, and their entries stand in the table.
use Rattle.std.specs.Prelude.{Option, Some, None, Result, ⊤}
use Prim.Native.Nat.{ℕ, ◌+◌, ◌*◌, ◌/◌, ◌≤◌, ◌<◌}
use native.Mathlib.Omega.{arith}
use mathlib.Core.Path.{◌≡◌, refl, sym, ap, ◌∙◌}
use mathlib.Core.List.{List, [], ◌∷◌, ◌++◌, append_assoc, append-nil}
use lib.ListN.{length, take, drop, length-append}
use lib.Seq.{take_at, drop-append-add, drop-drop}
use Rattle.entries.specs.Form.{Reads, nothing}
use Rattle.entries.specs.declared.Entry.{Entry}
use Rattle.standing.specs.Put.{put_at}
use Rattle.lists.specs.Line.{taken, take_line}
use Rattle.lists.specs.Lists.{list_ends, list_told, octet_numbers, time_numbers, entry_numbers, list_numbers, read_of}
use Rattle.lists.proofs.Lines.{told_from}
use Rattle.lists.proofs.Laws.{ends_so, reads_then, one_line}
use Rattle.products.specs.declared.ForecastTime.{ForecastTime}
use Rattle.lists.specs.declared.ListRefusal.{ListRefusal}

-- thirteen numbers an entry
octet_length : (o : Option ℕ) → length (octet_numbers o) ≡ 2
unfolding octet_numbers
octet_length (Some n) = refl
octet_length None = refl

time_length : (t : Option ForecastTime) → length (time_numbers t) ≡ 3
unfolding time_numbers
time_length (Some t) = refl
time_length None = refl

entry_length : (e : Entry) → length (entry_numbers e) ≡ 13
unfolding entry_numbers
entry_length e =
    simp (
      length-append,
      octet_length e.category,
      octet_length e.number,
      time_length e.time,
      octet_length e.surface,
    )

numbers_length : (entries : List Entry) → length (list_numbers entries) ≡ length entries * 13
unfolding list_numbers
numbers_length [] = refl
numbers_length (e ∷ more) =
    length-append (entry_numbers e) (list_numbers more)
    ∙ omega (arith, entry_length e, numbers_length more)

numbers_then : (entries : List Entry) (e : Entry)
    → list_numbers (entries ++ (e ∷ [])) ≡ list_numbers entries ++ entry_numbers e
unfolding list_numbers
numbers_then [] e = append-nil (entry_numbers e)
numbers_then (first ∷ more) e =
    ap (λ (l : List ℕ). entry_numbers first ++ l) (numbers_then more e)
    ∙ sym (append_assoc (entry_numbers first) (list_numbers more) (entry_numbers e))

-- so many lines are read, and the text is at the line behind them
pub record Going (text before table : List ℕ) (read at : ℕ) : Type 0 where
  pub done : List Entry
  pub reads : Reads text done (drop at text)
  pub count : length done ≡ read
  pub within : read ≤ length before / 13
  pub stored : table ≡ list_numbers done ++ drop (read * 13) before

pub start : (text table : List ℕ) → Going text table table 0 0
unfolding list_numbers
start text table =
    record { done = []; reads = nothing; count = refl; within = omega arith; stored = refl }

module _ {text before table : List ℕ} {read at : ℕ} (going : Going text before table read at) where
  numbers : length (list_numbers going.done) ≡ read * 13
  numbers = numbers_length going.done ∙ ap (λ (k : ℕ). k * 13) going.count

  -- one line more
  pub one_more : {e : Entry} {next : ℕ} {after : List ℕ} → take_line (drop at text) ≡ taken e (drop next text)
      → read < length before / 13
      → after ≡ put_at (read * 13) (entry_numbers e) table
      → Going text before after (read + 1) next
  one_more {e} {next} {after} is room put =
      let old = list_numbers going.done in
      let behind = drop (read * 13) before in
      let front : take (read * 13) table ≡ old =
      ap (take (read * 13)) going.stored ∙ take_at old behind (read * 13) numbers in
      let sum : length old + 13 ≡ read * 13 + 13 = omega (arith, numbers) in
      let place : read * 13 + 13 ≡ (read + 1) * 13 = omega arith in
      let rest : drop (read * 13 + 13) table ≡ drop ((read + 1) * 13) before =
      ap (drop (read * 13 + 13)) going.stored
      ∙ ap (λ (k : ℕ). drop k (old ++ behind)) (sym sum)
      ∙ drop-append-add old behind 13
      ∙ drop-drop 13 (read * 13) before
      ∙ ap (λ (k : ℕ). drop k before) place in
      record {
        done = going.done ++ (e ∷ []);
        reads = reads_then going.reads (one_line (drop at text) is);
        count = length-append going.done (e ∷ []) ∙ ap (λ (k : ℕ). k + 1) going.count;
        within = omega arith;
        stored =
            put
            ∙ ap (λ (k : ℕ). take (read * 13) table ++ (entry_numbers e ++ drop (read * 13 + k) table)) (entry_length e)
            ∙ ap (λ (l : List ℕ). l ++ (entry_numbers e ++ drop (read * 13 + 13) table)) front
            ∙ ap (λ (l : List ℕ). old ++ (entry_numbers e ++ l)) rest
            ∙ sym (append_assoc old (entry_numbers e) (drop ((read + 1) * 13) before))
            ∙ ap (λ (l : List ℕ). l ++ drop ((read + 1) * 13) before) (sym (numbers_then going.done e));
      }

  -- the reading ends here
  pub ends : (end : Result ⊤ ListRefusal)
      → told_from (length before / 13) read (drop at text) ≡ list_ends end
      → (record { entries = read; end = end } ≡ (read_of text before).answer)
      × (table ≡ (read_of text before).table)
  unfolding read_of
  ends end last =
      let room = length before / 13 in
      let told : list_told room text ≡ record { entries = going.done; end = end } =
      ends_so room end going.reads (omega (arith, going.count, going.within))
      (ap (λ (k : ℕ). told_from room k (drop at text)) going.count ∙ last) in (
        rw told (ap (λ (k : ℕ). record { entries = k; end = end }) (sym going.count)),
        rw told (going.stored ∙ ap (λ (k : ℕ). list_numbers going.done ++ drop k before) (sym numbers)),
      )
