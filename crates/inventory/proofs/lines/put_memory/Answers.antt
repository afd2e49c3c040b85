-- `put_memory` meets its contract: no line is due, or that of what is remembered.
use Rattle.std.specs.Prelude.{Some, None}
use Prim.Native.Nat.{ℕ}
use native.Mathlib.Omega.{arith}
use native.Mathlib.Nat.{add-zero}
use mathlib.Core.Path.{◌≡◌, refl, sym, ap, subst, ◌∙◌}
use mathlib.Core.List.{List, [], append-nil}
use lib.ListN.{take-append-drop}
use Rattle.sections.specs.Indicator.{indicator_of}
use Rattle.sections.specs.declared.indicator.Indicator.{Indicator}
use Rattle.products.specs.Products.{product_of}
use Rattle.products.specs.declared.templates.TemplateReading.TheVariants.{ByManual}
use Rattle.products.proofs.Rows.{product_by_the_table}
use Rattle.index.specs.Decoded.{own_octets, payload_of}
use Rattle.entries.specs.Entries.{entry_line, text_of}
use Rattle.inventory.specs.Inventory.{indicator_in}
use Rattle.inventory.specs.Memory.{entry_in}
use Rattle.inventory.specs.Lines.{put_in_text, entries_in, PutText}
use Rattle.inventory.specs.declared.memory.Memory.{Memory}
use Rattle.inventory.proofs.lines.put_memory.Goals as goal

pub nothing_put : (at : ℕ) (text : List ℕ) → PutText [] at text text at
unfolding put_in_text
nothing_put at text =
    record {
      same_length = refl;
      short = omega arith;
      measured = omega arith;
      put = λ fits. sym (rw add-zero (take-append-drop at text));
    }

no_entry : (file : List ℕ) (m : Memory) → indicator_of (own_octets file m.zeroth) ≡ None
    → text_of (entries_in file m) ≡ []
unfolding entries_in indicator_in text_of
no_entry file m e = rw e

one_entry : (file : List ℕ) (m : Memory) {indicator : Indicator}
    → indicator_of (own_octets file m.zeroth) ≡ Some indicator
    → text_of (entries_in file m)
    ≡ entry_line (entry_in m indicator (product_of ByManual (payload_of file m.fourth)))
unfolding entries_in indicator_in text_of
one_entry file m e = rw e (append-nil _)

-- a text that is the entry's
as_text : (file : List ℕ) (m : Memory) {written text text' : List ℕ} {at end : ℕ}
    → text_of (entries_in file m) ≡ written
    → PutText written at text text' end → PutText (text_of (entries_in file m)) at text text' end
as_text file m {text = text} {text' = text'} {at = at} {end = end} same put = subst
    (λ (t : List ℕ). PutText t at text text' end) (sym same) put

pub returns-in_default : goal.returns-in_default
returns-in_default c =
    let a = c.args in
    as_text a.file.now a.memory
    (no_entry a.file.now a.memory
    (ap indicator_of (sym c.own_octets.ensures) ∙ sym c.from_section-known.ensures
    ∙ c.in_default.is))
    (nothing_put a.at a.text.now)

pub returns : goal.returns
returns c =
    let a = c.args in
    let payload = payload_of a.file.now a.memory.fourth in
    let product : c.product_by-product.result ≡ product_of ByManual payload =
    c.product_by-product.ensures
    ∙ rw (c.requires.0, c.payload_of.ensures) (product_by_the_table ByManual payload) in
    as_text a.file.now a.memory
    (one_entry a.file.now a.memory
    (ap indicator_of (sym c.own_octets.ensures) ∙ sym c.from_section-known.ensures
    ∙ c.in-Some.is)
    ∙ sym (ap entry_line (c.entry_in.ensures ∙ rw product)))
    c.put_entry.ensures
