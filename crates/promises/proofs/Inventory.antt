-- The text inventory: when it is refused or written, in documents 01 and 02's numbers, and that it reads back.
use Rattle.std.specs.Prelude.{Ok, Err}
use Prim.Native.Nat.{ℕ, ◌≤◌, ◌<◌}
use native.Mathlib.Omega.{arith}
use mathlib.Core.Path.{◌≡◌, refl, sym, ap, subst, ◌∙◌}
use mathlib.Core.List.{List}
use lib.ListN.{length}
use borrow.Author.Tests.{lt-ltb, le-ltb}
use Rattle.octets.specs.Words.{Not, Iff}
use Rattle.index.specs.Bounds.{unlimited}
use Rattle.index.specs.Numbers.{end_of, stored, unplaced}
use Rattle.index.specs.Walk.{walked}
use Rattle.index.specs.declared.numbers.End.{End}
use Rattle.index.specs.declared.numbers.StoreEnd.{StoreEnd}
use Rattle.inventory.specs.Inventory.{text_into, inventory_by, entries_of, inventory_of}
use Rattle.inventory.specs.End.{inventory_end}
use Rattle.entries.proofs.Laws.{written_says_its_list, one_list, one_text}
use Rattle.inventory.proofs.EachEntry.{each_line_has_its_entry}
use Rattle.inventory.proofs.Said.{inventory_says_its_entries}
use Rattle.lists.proofs.Laws.{list_exactly_when, list_reads_back}
use Rattle.publish.proofs.Runs.{split}
use Rattle.walk_laws.specs.ExactlyWhen.{EndsClean}
use Rattle.walk_laws.proofs.WholeWalk.{from_1, is_clean, walk_refused_exactly_when, walk_clean_exactly_when}
use Rattle.promises.specs.CopyGiven.{refusing}
use Rattle.promises.specs.InventoryAnswered.{
  inventory_text,
  InventoryGiven,
  walks_own,
  text_too_small,
  InventoryRefusedExactlyWhen,
  InventoryWrittenExactlyWhen,
  InventoryReadsBack,
  TextInventory,
}
use Rattle.index.specs.Outcome.{Outcome, refused_there}

module _ (file text : List ℕ) where
  -- the answer to a walk's outcome, in numbers
  abbrev answers_to : Outcome → StoreEnd
  answers_to o = inventory_end (inventory_by o (entries_of file) text).answer

  abbrev outcome_of : Outcome
  outcome_of = (walked unlimited file).outcome

  -- of a clean end: 20, or all of the text
  when_small : length text < length (inventory_text file) → answers_to (Ok tt) ≡ refusing 20 0 0 0
  unfolding inventory_by text_into inventory_end unplaced
  when_small less = rw (lt-ltb (length text) (length (inventory_text file)) less)

  when_fits : length (inventory_text file) ≤ length text → answers_to (Ok tt) ≡ stored (length (inventory_text file))
  unfolding inventory_by text_into inventory_end
  when_fits fits = rw (le-ltb (length text) (length (inventory_text file)) fits)

  -- the walk's end, of a clean outcome
  clean_end : outcome_of ≡ Ok tt → EndsClean unlimited file
  unfolding end_of
  clean_end clean = (walk_clean_exactly_when unlimited file).0 (ap end_of clean)

  end_clean : EndsClean unlimited file → outcome_of ≡ Ok tt
  unfolding end_of
  end_clean ends = is_clean outcome_of (ap (λ (x : End). x.outcome) ((walk_clean_exactly_when unlimited file).1 ends))

  -- the numbers of an end that is given
  abbrev Numbers : StoreEnd → Type 0
  Numbers e = InventoryGiven file text e.end.outcome e.end.place e.end.offset e.end.detail

  -- what is refused with a number is the walk's own, or 20
  refuses_there : (x : Outcome) → outcome_of ≡ x → (n p o d : ℕ) → Not (n ≡ 0) → answers_to x ≡ refusing n p o d
      → InventoryGiven file text n p o d
  unfolding inventory_by inventory_end end_of stored
  refuses_there (Ok tt) is n p o d some e =
      split (length text) (length (inventory_text file))
      (λ less. subst Numbers (sym (when_small less) ∙ e) (text_too_small (clean_end is) less)) λ fits.
      absurd (some (sym (ap (λ (s : StoreEnd). s.end.outcome) (sym (when_fits fits) ∙ e))))
  refuses_there (Err stop) is n p o d some e =
      walks_own ((walk_refused_exactly_when unlimited file n p o d some).0 (ap end_of is ∙ ap (λ (s : StoreEnd). s.end) e))

  -- and the other way round
  refused_back : (x : Outcome) → outcome_of ≡ x → (n p o d : ℕ) → Not (n ≡ 0) → end_of x ≡ (refusing n p o d).end
      → answers_to x ≡ refusing n p o d
  unfolding inventory_by inventory_end end_of
  refused_back (Ok tt) is n p o d some e = absurd (some (sym (ap (λ (s : End). s.outcome) e)))
  refused_back (Err stop) is n p o d some e = ap (λ (s : End). record { end = s; written = 0 }) e

  inventory_refuses : (n p o d : ℕ) → Not (n ≡ 0)
      → Iff (answers_to outcome_of ≡ refusing n p o d) (InventoryGiven file text n p o d)
  inventory_refuses n p o d some = (refuses_there outcome_of refl n p o d some, back n p o d some)
    where
      back : (n p o d : ℕ) → Not (n ≡ 0) → InventoryGiven file text n p o d → answers_to outcome_of ≡ refusing n p o d
      back n p o d some (walks_own given) =
          refused_back outcome_of refl n p o d some ((walk_refused_exactly_when unlimited file n p o d some).1 given)
      back _ _ _ _ some (text_too_small ends less) = ap answers_to (end_clean ends) ∙ when_small less

  -- all of the text exactly when neither is
  written_there : (x : Outcome) → outcome_of ≡ x → (octets : ℕ) → answers_to x ≡ stored octets
      → EndsClean unlimited file × (length (inventory_text file) ≤ length text) × (octets ≡ length (inventory_text file))
  unfolding inventory_by inventory_end end_of stored
  written_there (Ok tt) is octets e =
      split (length text) (length (inventory_text file))
      (λ less. absurd (omega (arith, ap (λ (s : StoreEnd). s.end.outcome) (sym (when_small less) ∙ e)))) λ fits.
      (clean_end is, fits, sym (ap (λ (s : StoreEnd). s.written) (sym (when_fits fits) ∙ e)))
  written_there (Err stop) is octets e =
      absurd (omega (arith, from_1 stop.why, ap (λ (s : StoreEnd). s.end.outcome) e))

pub inventory_refused_exactly_when : InventoryRefusedExactlyWhen
unfolding inventory_of
inventory_refused_exactly_when file text n p o d some = inventory_refuses file text n p o d some

pub inventory_written_exactly_when : InventoryWrittenExactlyWhen
unfolding inventory_of
inventory_written_exactly_when file text octets = (
  written_there file text (walked unlimited file).outcome refl octets,
  λ (ends, fits, e). ap (answers_to file text) (end_clean file text ends) ∙ when_fits file text fits ∙ ap stored (sym e),
)

pub inventory_reads_back : InventoryReadsBack
inventory_reads_back file octets room fits =
    list_reads_back room (entries_of file) (inventory_says_its_entries file octets).0 fits

pub text_inventory : TextInventory
text_inventory =
    record {
      each_line = each_line_has_its_entry;
      refused = inventory_refused_exactly_when;
      written = inventory_written_exactly_when;
      one_text = one_text;
      one_list = one_list;
      says_its_list = written_says_its_list;
      list_read = list_exactly_when;
      list_reads_back = list_reads_back;
      inventory_reads_back = inventory_reads_back;
    }
