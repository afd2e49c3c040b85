-- What lent tables change: of what a walk tells with tables that can't be full, it tells the beginning, and all of it where they hold
-- that. Unlimited tables can't be full.
use Rattle.std.specs.Prelude.{Some, None}
use Prim.Native.Nat.{ℕ, zero, suc, ◌+◌, ◌≤◌, ◌<◌}
use native.Mathlib.Omega.{arith}
use mathlib.Core.Path.{◌≡◌, refl, sym, ap, ◌∙◌}
use mathlib.Core.Bool.{Bool, true, false}
use mathlib.Core.List.{List, [], ◌∷◌, ◌++◌, append-nil, append_assoc}
use lib.Dec.{ltb, leb}
use lib.ListN.{length, length-append}
use borrow.Author.Tests.{ltb-false, lt-leb, leb-true}
use Rattle.octets.specs.Words.{pick}
use Rattle.framing.specs.Framing.{read_at}
use Rattle.framing.specs.Listing.{Ending, listed_by, listing_from, listing}
use Rattle.framing.specs.declared.read.Section.{Section}
use Rattle.framing.specs.Read.{Read}
use Rattle.framing.specs.Read as read
use Rattle.framing.proofs.Tests.{by_test}
use Rattle.order.specs.Order.{judged, completes}
use Rattle.order.specs.declared.Order.TheVariants.{SubmessageStart}
use Rattle.order.specs.declared.Judged.{Judged}
use Rattle.order.specs.declared.Judged.TheVariants as says
use Rattle.order.proofs.Laws.{closes_only}
use Rattle.index.specs.Lines.{place, line_of}
use Rattle.index.specs.declared.line.Line.{Line}
use Rattle.index.specs.declared.refusal.Refusal.{Refusal}
use Rattle.index.specs.declared.refusal.Refusal.TheVariants as refusal
use Rattle.index.specs.Bounds.{unlimited}
use Rattle.index.specs.declared.bounds.Room.{Room}
use Rattle.index.specs.Walk.{
  Reached,
  at_start,
  Judgement,
  stops,
  passes,
  fitted,
  closing,
  by_order,
  gone_on,
  judgement,
  Told,
  followed,
  walked_from,
  walked,
}
use Rattle.walk_laws.proofs.Passing.{passing}
use Rattle.walk_laws.specs.Laws.{BeginsWith, BeginsTheUnlimited, HeldIsUnlimited}

abbrev lines_of : Judgement → List Line
lines_of (stops lines why) = lines
lines_of (passes lines closed reached) = lines

-- what is told is counted
abbrev Counted : Reached → Judgement → Type 0
Counted r (stops lines why) = Unit
Counted r (passes lines closed reached) =
    (reached.sections ≡ r.sections + 1) × (reached.lines ≡ r.lines + length lines) × (length lines ≤ 1)

-- the tables hold what a judgement tells, after what is told before
abbrev Holds : Room → Reached → Judgement → Type 0
Holds room r (stops lines why) = r.lines + length lines ≤ room.lines
Holds room r (passes lines closed reached) = (r.sections + 1 ≤ room.rows) × (r.lines + length lines ≤ room.lines)

-- the judgement in a room, beside that in a wide one: the same, or it stops with some of its lines where the room does not hold them all
data Beside (room : Room) (r : Reached) (wide : Judgement) : Judgement → Type 0 where
  same : Beside room r wide wide
  full : {lines : List Line} {why : Refusal} (more : List Line) → lines_of wide ≡ lines ++ more → (Holds room r wide → ⊥)
      → Beside room r wide (stops lines why)

module _ (room : Room) (r : Reached) where
  -- a test of the rows, and one of the lines
  by_rows : {lines : List Line} {closed : ℕ} {reached : Reached} {else : Judgement} (some more : List Line) → lines ≡ some ++ more
      → Beside room r (passes lines closed reached) else
      → Beside room r (passes lines closed reached) (pick (leb room.rows r.sections) (stops some refusal.SectionTableFull) else)
  by_rows {lines} {closed} {reached} some more e later =
      by_test (Beside room r (passes lines closed reached)) (leb room.rows r.sections)
      (λ none. full more e (λ held. let h = held.0 in omega (arith, leb-true room.rows r.sections none))) (λ free. later)

  by_lines : (wide : Judgement) {else : Judgement} → (Holds room r wide → r.lines < room.lines)
      → Beside room r wide else → Beside room r wide (pick (leb room.lines r.lines) (stops [] refusal.SubmessageTableFull) else)
  by_lines wide due later =
      by_test (Beside room r wide) (leb room.lines r.lines)
      (λ none. full (lines_of wide) refl (λ held. let h = due held in omega (arith, leb-true room.lines r.lines none))) (λ free. later)

module _ (room wide : Room) (r : Reached) (s : Section) (rows : r.sections < wide.rows) (lines : r.lines < wide.lines) where
  -- no submessage is complete
  plain : (j : Judged) → Beside room r (by_order j wide r s []) (by_order j room r s [])
  unfolding by_order fitted closing
  plain (says.Fits next) = rw (lt-leb wide.rows r.sections rows) (by_rows room r [] [] refl same)
  plain says.Closes =
      rw (lt-leb wide.rows r.sections rows, lt-leb wide.lines r.lines lines)
      (by_rows room r [] (line_of r.force (Some (place r.sections)) ∷ []) refl (by_lines room r _ (λ held. let h = held.1 in omega arith) same))
  plain says.Misplaced = same
  plain says.NoGrid = same

  -- a submessage is complete, and its message goes on
  going : (j : Judged) → judged SubmessageStart s.number ≡ j
      → Beside room r (by_order j wide (gone_on r) s (line_of r.force None ∷ []))
      (pick (leb room.lines r.lines) (stops [] refusal.SubmessageTableFull)
      (by_order j room (gone_on r) s (line_of r.force None ∷ [])))
  unfolding by_order fitted
  going (says.Fits next) e =
      rw (lt-leb wide.rows r.sections rows) (by_lines room r _ (λ held. let h = held.1 in omega arith) (by_rows room r (line_of r.force None ∷ []) [] refl same))
  going says.Closes e =
      let z = (closes_only SubmessageStart s.number e).0 in let never : ◌≡◌ {A = ℕ} 0 1 = cc in absurd (omega arith)
  going says.Misplaced e = by_lines room r _ (λ held. omega arith) same
  going says.NoGrid e = by_lines room r _ (λ held. omega arith) same

  beside : Beside room r (judgement wide r s) (judgement room r s)
  unfolding judgement
  beside = go (completes r.order s.number)
    where
      go : (t : Bool)
          → Beside room r
          (pick t
          (pick (leb wide.lines r.lines) (stops [] refusal.SubmessageTableFull)
          (by_order (judged SubmessageStart s.number) wide (gone_on r) s (line_of r.force None ∷ [])))
          (by_order (judged r.order s.number) wide r s []))
          (pick t
          (pick (leb room.lines r.lines) (stops [] refusal.SubmessageTableFull)
          (by_order (judged SubmessageStart s.number) room (gone_on r) s (line_of r.force None ∷ [])))
          (by_order (judged r.order s.number) room r s []))
      go true = rw (lt-leb wide.lines r.lines lines) (going (judged SubmessageStart s.number) refl)
      go false = plain (judged r.order s.number)

-- a section that is passed is counted, with its line
counted : (room : Room) (r : Reached) (s : Section) → Counted r (judgement room r s)
counted room r s = go (judgement room r s) refl
  where
    go : (j : Judgement) → judgement room r s ≡ j → Counted r j
    go (stops lines why) e = tt
    go (passes lines closed reached) e = let p = passing room r s e in (p.one, p.counted, p.few)

-- in a room that holds what is told in a wide one
module _ (room wide : Room) (ending : Ending) where
  record Compared (r : Reached) (told whole : Told) : Type 0 where
    begins : BeginsWith whole told
    held : r.sections + length whole.sections ≤ room.rows → r.lines + length whole.lines ≤ room.lines → told ≡ whole

  compared : (sections : List Section) (r : Reached) → r.sections + length sections ≤ wide.rows
      → r.lines + length sections ≤ wide.lines
      → Compared r (walked_from room r sections ending) (walked_from wide r sections ending)
  unfolding walked_from
  compared [] r rows lines =
      record { begins = record { more_sections = []; more_lines = []; sections = refl; lines = refl }; held = λ a b. refl }
  compared (s ∷ sections) r rows lines =
      go (judgement wide r s) (judgement room r s) (beside room wide r s (omega arith) (omega arith)) (counted wide r s)
      (λ reached. compared sections reached)
    where
      Later : Type 0
      Later =
          (reached : Reached) → reached.sections + length sections ≤ wide.rows → reached.lines + length sections ≤ wide.lines
          → Compared reached (walked_from room reached sections ending) (walked_from wide reached sections ending)

      on : (j : Judgement) → Counted r j → Later
          → Compared r (followed r s j (λ reached. walked_from room reached sections ending))
          (followed r s j (λ reached. walked_from wide reached sections ending))
      on (stops told why) few later =
          record {
            begins = record { more_sections = []; more_lines = []; sections = refl; lines = sym (append-nil told) };
            held = λ a b. refl;
          }
      on (passes told closed reached) few later =
          let (one, sum, least) = few in
          let h = later reached (omega arith) (omega arith) in
          let b = h.begins in
          let all = length-append told (walked_from wide reached sections ending).lines in
          record {
            begins =
                record {
                  more_sections = b.more_sections;
                  more_lines = b.more_lines;
                  sections = ap (λ (l : List Section). s ∷ l) b.sections;
                  lines = ap (λ (l : List Line). told ++ l) b.lines ∙ sym (append_assoc told _ b.more_lines);
                };
            held =
                λ rows lines. ap (λ (t : Told). followed r s (passes told closed reached) (λ reached. t))
                (h.held (omega arith) (omega arith));
          }

      stopped : (j : Judgement) (some more : List Line) (why : Refusal) → lines_of j ≡ some ++ more → (Holds room r j → ⊥)
          → Compared r (followed r s (stops some why) (λ reached. walked_from room reached sections ending))
          (followed r s j (λ reached. walked_from wide reached sections ending))
      stopped (stops told whole) some more why e none =
          record {
            begins = record { more_sections = []; more_lines = more; sections = refl; lines = e };
            held = λ rows lines. absurd (none lines);
          }
      stopped (passes told closed reached) some more why e none =
          let t = walked_from wide reached sections ending in
          let all = length-append told t.lines in
          record {
            begins =
                record {
                  more_sections = s ∷ t.sections;
                  more_lines = more ++ t.lines;
                  sections = refl;
                  lines = ap (λ (l : List Line). l ++ t.lines) e ∙ append_assoc some more t.lines;
                };
            held = λ rows lines. absurd (none (omega arith, omega arith));
          }

      go : (w j : Judgement) → Beside room r w j → Counted r w → Later
          → Compared r (followed r s j (λ reached. walked_from room reached sections ending))
          (followed r s w (λ reached. walked_from wide reached sections ending))
      go w _ same few later = on w few later
      go w _ (full {lines} {why} more e none) few later = stopped w lines more why e none

-- a file has at most one section more than octets, so that unlimited tables are wide enough
few_listed : (count : ℕ) (file : List ℕ) (at rest : ℕ) → length (listing_from count file at rest).sections ≤ count
unfolding listing_from
few_listed zero file at rest = omega arith
few_listed (suc count) file at rest = go (read_at file at rest) (few_listed count file)
  where
    go : (x : Read) → ((at' rest' : ℕ) → length (listing_from count file at' rest').sections ≤ count)
        → length (listed_by x (λ at' rest'. listing_from count file at' rest')).sections ≤ suc count
    go (read.Section section next) later = let h = later next.at.0 next.rest in omega arith
    go read.Over later = omega arith
    go (read.Refused fault offset) later = omega arith

whole : (room : Room) (file : List ℕ) → length file ≤ 1099511627776
    → Compared room unlimited (listing file).ending (at_start file)
    (walked_from room (at_start file) (listing file).sections (listing file).ending)
    (walked_from unlimited (at_start file) (listing file).sections (listing file).ending)
unfolding listing
whole room file short =
    let few = few_listed (length file + 1) file 0 0 in
    compared room unlimited (listing file).ending (listing file).sections (at_start file) (omega arith) (omega arith)

pub begins_the_unlimited : BeginsTheUnlimited
unfolding walked
begins_the_unlimited room file = go (ltb 1099511627776 (length file)) refl
  where
    go : (t : Bool) → ltb 1099511627776 (length file) ≡ t → BeginsWith (walked unlimited file) (walked room file)
    go true e = rw e (record { more_sections = []; more_lines = []; sections = refl; lines = refl })
    go false e = rw e (whole room file (ltb-false 1099511627776 (length file) e)).begins

pub held_is_unlimited : HeldIsUnlimited
unfolding walked
held_is_unlimited room file = go (ltb 1099511627776 (length file)) refl
  where
    go : (t : Bool) → ltb 1099511627776 (length file) ≡ t → length (walked unlimited file).sections ≤ room.rows
        → length (walked unlimited file).lines ≤ room.lines → walked room file ≡ walked unlimited file
    go true e rows lines = rw e
    go false e rows lines =
        let h = whole room file (ltb-false 1099511627776 (length file) e) in
        rw e (h.held (let r = rw e at rows in omega arith) (let l = rw e at lines in omega arith))
