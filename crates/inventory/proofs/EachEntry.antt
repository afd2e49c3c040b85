-- Each line of a walk has its entry, of the sections 0 and 4 at its places and of their octets.
use Rattle.std.specs.Prelude.{Some}
use Prim.Native.Nat.{ℕ, zero, suc, ◌+◌, ◌-◌, ◌≤◌}
use native.Mathlib.Omega.{arith}
use mathlib.Core.Path.{◌≡◌, refl, sym, ap, ◌∙◌}
use mathlib.Core.List.{List, [], ◌∷◌}
use lib.ListN.{length, get_or, take, drop, length-drop}
use lib.Seq.{take-nil, drop-cons, drop-drop, length-take-le, get_or-take, get_or-drop}
use borrow.Author.Tests.{le-ltb}
use Rattle.octets.specs.BigEndian.{be_at}
use Rattle.sections.specs.Indicator.{indicator_of}
use Rattle.sections.specs.declared.indicator.Indicator.{Indicator}
use Rattle.products.specs.Products.{category_of, parameter_of, forecast_of, fixed_of, product_of}
use Rattle.products.specs.declared.templates.TemplateReading.TheVariants.{ByManual}
use Rattle.framing.specs.LaidOut.{LaidOut, nothing_more, indicator_next, end_next, headed_next}
use Rattle.framing.specs.declared.read.Offset.{Offset}
use Rattle.framing.specs.declared.read.Section.{Section}
use Rattle.index.specs.Lines.{unlisted}
use Rattle.index.specs.Bounds.{unlimited}
use Rattle.index.specs.Walk.{walked}
use Rattle.index.specs.Decoded.{own_octets, payload_of, decoded}
use Rattle.index.specs.Pins.{Every, told_at, ToldAt, PinnedLine}
use Rattle.index.specs.declared.line.Line.{Line}
use Rattle.index.proofs.Rows.{rows_are_laid_out}
use Rattle.index.proofs.Pins.{lines_are_pinned}
use Rattle.entries.specs.declared.Entry.{Entry}
use Rattle.inventory.specs.Inventory.{
  first_surface,
  for_each,
  indicator_in,
  entry_with,
  entry_at,
  entries_of,
}
use Rattle.inventory.specs.Laws.{behind_header, PinnedEntry, EachTwo, EachLineHasItsEntry}
use Rattle.inventory.proofs.Remembered.{StandsThere, entry_at_lem}

-- a part behind a part
drop_take : (k n : ℕ) (l : List ℕ) → drop k (take n l) ≡ take (n - k) (drop k l)
drop_take zero n l = let same : n - 0 ≡ n = omega arith in rw same
drop_take (suc k) zero l = let none : 0 - suc k ≡ 0 = omega arith in rw none
drop_take (suc k) (suc n) [] = sym (take-nil (suc n - suc k))
drop_take (suc k) (suc n) (x ∷ l) =
    let less : suc n - suc k ≡ n - k = omega arith in rw less (drop_take k n l)

payload_behind : (file : List ℕ) (s : Section) → payload_of file s ≡ behind_header file s
unfolding payload_of own_octets
payload_behind file s =
    drop_take 5 s.length (drop s.offset.0 file)
    ∙ ap (take (s.length - 5)) (drop-drop 5 s.offset.0 file)

module _ (file : List ℕ) where
  -- a section 0 has its 16 octets
  abbrev pub WholeIndicator : Section → Type 0
  WholeIndicator s = (s.length ≡ 16) × (s.offset.0 + 16 ≤ length file)

  pub whole_indicator : {at rest : ℕ} {told : List Section} → LaidOut file at rest told → (p : ℕ)
      → ToldAt told 0 p → WholeIndicator (told_at told p)
  whole_indicator nothing_more p (inside, number) = absurd (omega arith)
  whole_indicator (indicator_next first total more) zero there = (refl, first.1.0)
  whole_indicator (indicator_next first total more) (suc p) (inside, number) =
      whole_indicator more p (omega arith, number)
  whole_indicator (end_next mark more) zero (inside, number) = absurd (omega arith)
  whole_indicator (end_next mark more) (suc p) (inside, number) =
      whole_indicator more p (omega arith, number)
  whole_indicator (headed_next some other bounds whole left more) zero (inside, number) =
      let low = bounds.0 in absurd (omega arith)
  whole_indicator (headed_next some other bounds whole left more) (suc p) (inside, number) =
      whole_indicator more p (omega arith, number)

  -- and says its discipline in octet 7
  abbrev said_by : Section → Indicator
  said_by s = record {
    discipline = get_or file (s.offset.0 + 6) 0;
    total = be_at (own_octets file s) 8 8;
  }

  indicator_says : (s : Section) → WholeIndicator s
      → indicator_of (own_octets file s) ≡ Some (said_by s)
  unfolding indicator_of own_octets
  indicator_says s (size, room) =
      let own = take s.length (drop s.offset.0 file) in
      let long : length own ≡ s.length =
      length-take-le s.length (drop s.offset.0 file) (simp length-drop (omega arith)) in
      let seventh : get_or own 6 0 ≡ get_or file (s.offset.0 + 6) 0 =
      get_or-take s.length (drop s.offset.0 file) 6 0 (omega arith)
      ∙ get_or-drop s.offset.0 file 6 0 in
      rw (le-ltb (length own) 16 (omega arith), seventh)

stands_told : (told : List Section) (number p : ℕ) → ToldAt told number p
    → StandsThere told number p (told_at told p)
stands_told told number p (inside, is) =
    record { there = ap (take 1) (drop-cons told p unlisted.section inside); number_is = is }

-- one entry for a line
record HasEntry (file : List ℕ) (told : List Section) (line : Line) : Type 0 where
  entry : Entry
  alone : entry_at (decoded file told) line ≡ entry ∷ []
  pinned : PinnedEntry file told line entry

has_entry : (file : List ℕ) (told : List Section) → LaidOut file 0 0 told → (line : Line)
    → PinnedLine file told line → HasEntry file told line
unfolding indicator_in product_of
has_entry file told laid line pins =
    let zeroth = pins.indicator.there in
    let fourth = pins.product.there in
    let z = told_at told line.indicator.0 in
    let p = told_at told line.product.0 in
    let product = product_of ByManual (payload_of file p) in
    let same = payload_behind file p in
    record {
      entry = entry_with line (said_by file z) product;
      alone =
          entry_at_lem file told line (stands_told told 0 line.indicator.0 zeroth)
          (stands_told told 4 line.product.0 fourth)
          ∙ rw (indicator_says file z (whole_indicator file laid line.indicator.0 zeroth));
      pinned =
          record {
            zeroth = zeroth;
            fourth = fourth;
            message = refl;
            submessage = refl;
            offset = refl;
            there = pins.offset;
            discipline = ap (λ (o : Offset). get_or file (o.0 + 6) 0) (sym pins.offset);
            category = ap category_of same;
            number = ap parameter_of same;
            time = ap (forecast_of ByManual) same;
            surface = ap (λ (l : List ℕ). first_surface (fixed_of ByManual l)) same;
          };
    }

-- for each line
each_two : (file : List ℕ) (told : List Section) (lines : List Line)
    → ((line : Line) → PinnedLine file told line → HasEntry file told line)
    → Every (PinnedLine file told) lines
    → EachTwo (PinnedEntry file told) lines (for_each lines (entry_at (decoded file told)))
each_two file told [] has pins = tt
each_two file told (line ∷ lines) has (pin, pins) =
    let one = has line pin in rw one.alone (one.pinned, each_two file told lines has pins)

pub each_line_has_its_entry : EachLineHasItsEntry
unfolding entries_of
each_line_has_its_entry file =
    let walk = walked unlimited file in
    each_two file walk.sections walk.lines
    (has_entry file walk.sections (rows_are_laid_out unlimited file))
    (lines_are_pinned unlimited file)
