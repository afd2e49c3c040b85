-- What a call answers, case by case.
use Rattle.std.specs.Prelude.{Result, Ok, Err}
use Prim.Native.Nat.{ℕ, ◌≤◌, ◌<◌}
use native.Mathlib.Omega.{arith}
use native.Mathlib.Nat.{zero-add}
use mathlib.Core.Path.{◌≡◌, refl, sym, ap, subst₂, ◌∙◌}
use mathlib.Core.List.{List, [], ◌∷◌, ◌++◌}
use lib.ListN.{length}
use borrow.Author.Tests.{lt-ltb, le-ltb}
use Rattle.index.specs.Lines.{place}
use Rattle.index.specs.Bounds.{most_octets, unlimited}
use Rattle.index.specs.Walk.{walked}
use Rattle.index.specs.declared.refusal.Refused.{Refused}
use Rattle.index.specs.declared.refusal.Refusal.TheVariants as refusal
use Rattle.entries.specs.Entries.{text_of}
use Rattle.inventory.specs.Inventory.{entries_of, text_into, inventory_by, inventory_of}
use Rattle.inventory.specs.Lines.{put_in_text, PutLines}
use Rattle.inventory.specs.declared.lines.Listing.{Listing}
use Rattle.index.specs.Outcome.{Outcome, refused_there}
use Rattle.inventory.specs.declared.InventoryRefusal.TheVariants.{TextTooSmall, Walk}
use Rattle.inventory.specs.declared.InventoryRefusal.{InventoryRefusal}

-- it is the answer of a call, and the buffer behind it
abbrev pub Answers : List ℕ → List ℕ → Result ℕ InventoryRefusal → List ℕ → Type 0
Answers file text answer after = (answer ≡ (inventory_of file text).answer) × (after ≡ (inventory_of file text).text)

-- where lines are measured alone none is put
nothing_before : (front text : List ℕ) → length front ≡ 0 → front ++ text ≡ text
nothing_before [] text e = refl
nothing_before (octet ∷ front) text e = absurd (omega arith)

module _ (file text : List ℕ) where
  refused_by_lem : {stop : Refused} → (walked unlimited file).outcome ≡ Err stop
      → inventory_of file text ≡ record { answer = Err (Walk stop); text = text }
  unfolding inventory_of inventory_by
  refused_by_lem e = ap (λ (o : Outcome). inventory_by o (entries_of file) text) e

  abbrev stop_too_long : Refused
  stop_too_long = refused_there refusal.FileTooLong (place 0) (record { 0 = 0 })

  pub too_long : most_octets < length file → Answers file text (Err (Walk stop_too_long)) text
  unfolding walked
  too_long long =
      let ends : (walked unlimited file).outcome ≡ Err stop_too_long = rw (lt-ltb _ _ long) in
      rw (refused_by_lem ends) (refl, refl)

  -- the lines are measured
  module _ {front : List ℕ} {measured : Listing} (first : PutLines file [] front measured) where
    same : front ++ text ≡ text
    same = nothing_before front text first.same_length

    pub refused : {stop : Refused} → measured.outcome ≡ Err stop
        → Answers file text (Err (Walk stop)) (front ++ text)
    refused e = rw (same, refused_by_lem (sym first.ends ∙ e)) (refl, refl)

    module _ (clean : measured.outcome ≡ Ok tt) where
      by_text : inventory_of file text ≡ text_into (text_of (entries_of file)) text
      unfolding inventory_of inventory_by
      by_text = ap (λ (o : Outcome). inventory_by o (entries_of file) text) (sym first.ends ∙ clean)

      pub too_small : length (front ++ text) < measured.octets
          → Answers file text (Err TextTooSmall) (front ++ text)
      unfolding text_into
      too_small small =
          let short : length text < length (text_of (entries_of file)) = subst₂ ◌<◌ (ap length same) (first.measured clean) small in
          rw (same, by_text, lt-ltb _ _ short) (refl, refl)

      -- and put
      pub whole : {after : List ℕ} {told : Listing} → measured.octets ≤ length (front ++ text) → PutLines file (front ++ text) after told
          → Answers file text (Ok told.octets) after
      unfolding text_into put_in_text
      whole {after} {told} room second =
          let octets = second.measured (second.ends ∙ sym first.ends ∙ clean) in
          let fits : length (text_of (entries_of file)) ≤ length text = subst₂ ◌≤◌ (first.measured clean) (ap length same) room in
          let put = second.put (second.ends ∙ sym first.ends ∙ clean) (omega (arith, ap length same)) in
          rw (by_text, le-ltb _ _ fits) (
            ap Ok octets,
            put ∙ ap (λ (t : List ℕ). put_in_text t 0 (text_of (entries_of file))) same
                ∙ rw zero-add,
          )
