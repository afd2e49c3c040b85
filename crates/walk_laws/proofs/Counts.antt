-- How many sections and lines are told, where lines end, and what the tables' room changes.
use Rattle.std.specs.Prelude.{Option, Some, None}
use Prim.Native.Nat.{ℕ, suc, ◌+◌, ◌-◌, ◌≤◌}
use native.Mathlib.Omega.{arith}
use native.Mathlib.Nat.{sub-zero}
use mathlib.Core.Path.{◌≡◌, refl, sym, ap, subst}
use mathlib.Core.Bool.{false}
use mathlib.Core.List.{List, [], ◌∷◌, ◌++◌}
use mathlib.Core.Logic.{inl, inr}
use lib.ListN.{length, length-append}
use Rattle.octets.specs.Words.{Not}
use Rattle.framing.specs.declared.read.Section.{Section}
use Rattle.framing.proofs.OneRead.{reads_as, goes}
use Rattle.order.specs.Order.{is_between}
use Rattle.order.specs.declared.Order.TheVariants.{AfterData}
use Rattle.index.specs.declared.line.Line.{Line}
use Rattle.index.specs.Numbers.{end_of}
use Rattle.index.specs.declared.numbers.End.{End}
use Rattle.index.specs.Bounds.{unlimited}
use Rattle.index.specs.declared.bounds.Room.{Room}
use Rattle.index.specs.Walk.{Reached, at_start, Told, walked}
use Rattle.index.specs.Pins.{Every}
use Rattle.walk_laws.specs.Rows.{FirstRow}
use Rattle.walk_laws.specs.ExactlyWhen.{
  rows_after_read,
  RowsFull,
  LinesFull,
  hand0,
  hand8,
  behind_header,
  CannotBeRead,
  Stand,
  Given,
  too_long,
  unread,
  input_over,
  misjudged,
}
use Rattle.walk_laws.specs.Laws.{
  number_at,
  EndIsTold,
  EndsAreTold,
  closers,
  MessagesAreClosers,
  FewerThanOctets,
  WithinRoom,
  UnlimitedIsNeverFull,
}
use Rattle.walk_laws.proofs.WholeWalk.{on, walk_refused_exactly_when}
use Rattle.walk_laws.proofs.OneRead.{section_there}
use Rattle.walk_laws.proofs.WalksTo.{WalksTo, from_start, step_on, comes_walks_to}
use Rattle.walk_laws.proofs.Passing.{Way, within, gone_further, shut, Left, nothing, one_line, Passing, passing, halting}
use Rattle.walk_laws.proofs.Induction.{each_stand, of_walk_lem}
use Rattle.order.specs.declared.Place.{Place}

-- no more lines than sections, and one fewer inside a message
pub record Ample (r : Reached) : Type 0 where
  pub low : r.lines ≤ r.sections
  pub inside : is_between r.order ≡ false → r.lines + 1 ≤ r.sections

ample_start : (file : List ℕ) → Ample (at_start file)
unfolding is_between
ample_start file = record { low = omega arith; inside = λ e. let z : ◌≡◌ {A = ℕ} 0 1 = cc in absurd (omega arith) }

-- after 7 a message is open
after_7 : (r : Reached) → Ample r → r.order ≡ AfterData → r.lines + 1 ≤ r.sections
unfolding is_between
after_7 r ample e = ample.inside (rw e)

ample_next : {room : Room} {r : Reached} {s : Section} {lines : List Line} {closed : ℕ} {reached : Reached}
    → Passing room r s lines closed reached → Ample r → Ample reached
ample_next {r = r} {reached = reached} p ample = go p.way p.counted p.one
  where
    go : {lines : List Line} {closed : ℕ} {s : Section} → Way r s lines closed reached → reached.lines ≡ r.lines + length lines
        → reached.sections ≡ r.sections + 1 → Ample reached
    go (within below ajar) counted one = let l = ample.low in record { low = omega arith; inside = λ e. omega arith }
    go (gone_further below ajar order end) counted one =
        let l = after_7 r ample order in record { low = omega arith; inside = λ e. omega arith }
    go (shut eight clean order end) counted one =
        let l = after_7 r ample order in record { low = omega arith; inside = λ e. omega arith }

-- at every stand
pub walks_to_ample : {room : Room} {file : List ℕ} {at rest : ℕ} {r : Reached} → WalksTo room file at rest r → (r.sections ≤ at) × Ample r
walks_to_ample {file = file} from_start = (omega arith, ample_start file)
walks_to_ample {room} {file} (step_on {at} {rest} {r = r} {s = s} c e f) =
    let k = walks_to_ample c in
    let low = k.0 in
    let forward = goes (reads_as file at rest e) in
    let p = passing room r s f in
    (omega arith, ample_next p k.1)

pub fewer_than_octets : FewerThanOctets
fewer_than_octets room file = (
  of_walk_lem room file (λ t. length t.sections ≤ length file) (λ how. omega arith) (let k = sections 0 0 (at_start file) in omega arith),
  of_walk_lem room file (λ t. length t.lines ≤ length t.sections) (λ how. omega arith)
      (let k = lines 0 0 (at_start file) (ample_start file) in omega arith),
)
  where
    sections : (at rest : ℕ) (r : Reached) → length (on room file at rest r).sections ≤ length file - at
    sections =
        each_stand room file (λ at rest r t. length t.sections ≤ length file - at) (λ at rest r how same. omega arith)
        (λ at rest r s c lines why e f. omega arith)
        (λ at rest r s c lines closed reached later e f so. let forward = goes (reads_as file at rest e) in omega arith)

    left : (r : Reached) (lines : List Line) → Ample r → Left r lines → r.lines + length lines ≤ r.sections + 0
    left r _ ample nothing = let l = ample.low in omega arith
    left r _ ample (one_line order end) = let l = after_7 r ample order in omega arith

    lines : (at rest : ℕ) (r : Reached) → Ample r
        → r.lines + length (on room file at rest r).lines ≤ r.sections + length (on room file at rest r).sections
    lines =
        each_stand room file (λ at rest r t. Ample r → r.lines + length t.lines ≤ r.sections + length t.sections)
        (λ at rest r how same ample. let l = ample.low in omega arith)
        (λ at rest r s c lines why e f ample. left r lines ample (halting room r s f).told)
        (λ at rest r s c lines closed reached later e f so ample.
        let p = passing room r s f in
        let ih = so (ample_next p ample) in
        let sum = length-append lines later.lines in
        omega arith)

pub within_room : WithinRoom
within_room room file = (
  of_walk_lem room file (λ t. length t.sections ≤ room.rows) (λ how. omega arith)
      (let k = sections 0 0 (at_start file) (omega arith) in omega arith),
  of_walk_lem room file (λ t. length t.lines ≤ room.lines) (λ how. omega arith)
      (let k = lines 0 0 (at_start file) (omega arith) in omega arith),
)
  where
    sections : (at rest : ℕ) (r : Reached) → r.sections ≤ room.rows
        → r.sections + length (on room file at rest r).sections ≤ room.rows
    sections =
        each_stand room file (λ at rest r t. r.sections ≤ room.rows → r.sections + length t.sections ≤ room.rows)
        (λ at rest r how same h. omega arith)
        (λ at rest r s c lines why e f h. omega arith)
        (λ at rest r s c lines closed reached later e f so h.
        let p = passing room r s f in
        let row = p.row in
        let one = p.one in
        let ih = so (omega arith) in
        omega arith)

    lines : (at rest : ℕ) (r : Reached) → r.lines ≤ room.lines → r.lines + length (on room file at rest r).lines ≤ room.lines
    lines =
        each_stand room file (λ at rest r t. r.lines ≤ room.lines → r.lines + length t.lines ≤ room.lines)
        (λ at rest r how same h. omega arith)
        (λ at rest r s c lines why e f h. (halting room r s f).held h)
        (λ at rest r s c lines closed reached later e f so h.
        let p = passing room r s f in
        let ih = so (p.held h) in
        let counted = p.counted in
        let sum = length-append lines later.lines in
        omega arith)

-- a line's end, among sections that are told from a place on
abbrev EndsIn : ℕ → List Section → Option Place → Type 0
EndsIn from sections None = Unit
EndsIn from sections (Some p) = (from ≤ p.0) × (number_at sections (p.0 - from) ≡ 8)

pub every_map : {A : Type 0} {So Then : A → Type 0} (l : List A) → ((a : A) → So a → Then a) → Every So l → Every Then l
every_map [] f h = tt
every_map (a ∷ l) f h = (f a h.0, every_map l f h.1)

one_earlier : (from : ℕ) (s : Section) (sections : List Section) (end : Option Place) → EndsIn (from + 1) sections end
    → EndsIn from (s ∷ sections) end
one_earlier from s sections None so = tt
one_earlier from s sections (Some p) (low, eight) =
    let e : suc (p.0 - (from + 1)) ≡ p.0 - from = omega arith in
    (omega arith, subst (λ (k : ℕ). number_at (s ∷ sections) k ≡ 8) e eight)

pub ends_are_told : EndsAreTold
ends_are_told room file =
    of_walk_lem room file (λ t. Every (λ line. EndIsTold t.sections line.end) t.lines) (λ how. tt)
    (every_map (on room file 0 0 (at_start file)).lines (λ line. at_0 line.end)
    (each_stand room file (λ at rest r t. Every (λ line. EndsIn r.sections t.sections line.end) t.lines)
    (λ at rest r how same. tt)
    (λ at rest r s c lines why e f. left r lines (halting room r s f).told)
    (λ at rest r s c lines closed reached later e f so.
    let p = passing room r s f in
    go r s lines closed reached p.way later
    (every_map later.lines (λ line. one_earlier r.sections s later.sections line.end)
    (subst (λ (k : ℕ). Every (λ line. EndsIn k later.sections line.end) later.lines) p.one so)))
    0 0 (at_start file)))
  where
    at_0 : (end : Option Place) → EndsIn 0 (on room file 0 0 (at_start file)).sections end
        → EndIsTold (on room file 0 0 (at_start file)).sections end
    at_0 None so = tt
    at_0 (Some p) (low, eight) = rw sub-zero at eight

    goes_on : (from : ℕ) (sections : List Section) (end : Option Place) → end ≡ None → EndsIn from sections end
    goes_on from sections end e = subst (EndsIn from sections) (sym e) tt

    left : (r : Reached) (lines : List Line) → Left r lines → Every (λ line. EndsIn r.sections [] line.end) lines
    left r _ nothing = tt
    left r _ (one_line {line} order end) = (goes_on r.sections [] line.end end, tt)

    go : (r : Reached) (s : Section) (lines : List Line) (closed : ℕ) (reached : Reached) → Way r s lines closed reached → (later : Told)
        → Every (λ line. EndsIn r.sections (s ∷ later.sections) line.end) later.lines
        → Every (λ line. EndsIn r.sections (s ∷ later.sections) line.end) (lines ++ later.lines)
    go r s _ _ _ (within below ajar) later so = so
    go r s _ _ _ (gone_further {line} below ajar order end) later so = (goes_on r.sections (s ∷ later.sections) line.end end, so)
    go r s _ _ _ (shut {line} eight clean order end) later so =
        let zeroth : r.sections - r.sections ≡ 0 = omega arith in (
          subst (EndsIn r.sections (s ∷ later.sections)) (sym end)
              (omega arith, subst (λ (k : ℕ). number_at (s ∷ later.sections) k ≡ 8) (sym zeroth) eight),
          so,
        )

pub messages_are_closers : MessagesAreClosers
messages_are_closers room file =
    of_walk_lem room file (λ t. t.messages ≡ closers t.lines) (λ how. refl)
    (each_stand room file (λ at rest r t. t.messages ≡ closers t.lines) (λ at rest r how same. refl)
    (λ at rest r s c lines why e f. left r lines (halting room r s f).told)
    (λ at rest r s c lines closed reached later e f so. go r s lines closed reached (passing room r s f).way later so) 0 0 (at_start file))
  where
    left : (r : Reached) (lines : List Line) → Left r lines → 0 ≡ closers lines
    left r _ nothing = refl
    left r _ (one_line {line} order end) = rw end

    go : (r : Reached) (s : Section) (lines : List Line) (closed : ℕ) (reached : Reached) → Way r s lines closed reached
        → (later : Told) → later.messages ≡ closers later.lines → closed + later.messages ≡ closers (lines ++ later.lines)
    go r s _ _ _ (within below ajar) later so = omega arith
    go r s _ _ _ (gone_further {line} below ajar order end) later so = rw (end, so)
    go r s _ _ _ (shut {line} eight clean order end) later so = rw (end, so)

-- a row of the tables is first where they are full
full : (room : Room) (b : Stand) (number n d : ℕ) → FirstRow (rows_after_read room b number) n d
    → (n ≡ 13 → RowsFull room b) × (n ≡ 14 → LinesFull room b)
full room b number n d (inl (h, e, f)) = ((λ z. absurd (omega arith)), λ z. h.1)
full room b number n d (inr (_, inl (h, e, f))) = ((λ z. absurd (omega arith)), λ z. absurd (omega arith))
full room b number n d (inr (_, inr (_, inl (h, e, f)))) = ((λ z. absurd (omega arith)), λ z. absurd (omega arith))
full room b number n d (inr (_, inr (_, inr (_, inl (h, e, f))))) = ((λ z. h), λ z. absurd (omega arith))
full room b number n d (inr (_, inr (_, inr (_, inr (_, inl (h, e, f)))))) = ((λ z. absurd (omega arith)), λ z. h.1)
full room b number n d (inr (_, inr (_, inr (_, inr (_, inr (_, h)))))) = absurd h

-- no read is refused by a row of the tables
pub to_9 : (file : List ℕ) (at rest n o d : ℕ) → CannotBeRead file at rest n o d → n ≤ 9
to_9 file at rest n o d (hand0 z first (here, inl (h, e, f))) = omega arith
to_9 file at rest n o d (hand0 z first (here, inr (_, inl (h, e, f)))) = omega arith
to_9 file at rest n o d (hand0 z first (here, inr (_, inr (_, h)))) = absurd h
to_9 file at rest n o d (hand8 z i (here, inl (h, e, f))) = omega arith
to_9 file at rest n o d (hand8 z i (here, inr (_, inl (h, e, f)))) = omega arith
to_9 file at rest n o d (hand8 z i (here, inr (_, inr (_, h)))) = absurd h
to_9 file at rest n o d (behind_header a b i (here, inl (h, e, f))) = omega arith
to_9 file at rest n o d (behind_header a b i (here, inr (_, inl (h, e, f)))) = omega arith
to_9 file at rest n o d (behind_header a b i (here, inr (_, inr (_, inl (h, e, f))))) = omega arith
to_9 file at rest n o d (behind_header a b i (here, inr (_, inr (_, inr (_, inl (h, e, f)))))) = omega arith
to_9 file at rest n o d (behind_header a b i (here, inr (_, inr (_, inr (_, inr (_, inl (h, e, f))))))) = omega arith
to_9 file at rest n o d (behind_header a b i (here, inr (_, inr (_, inr (_, inr (_, inr (_, inl (h, e, f)))))))) = omega arith
to_9 file at rest n o d (behind_header a b i (here, inr (_, inr (_, inr (_, inr (_, inr (_, inr (_, inl (h, e, f))))))))) = omega arith
to_9 file at rest n o d (behind_header a b i (here, inr (_, inr (_, inr (_, inr (_, inr (_, inr (_, inr (_, h))))))))) = absurd h

never : (file : List ℕ) (n p o d : ℕ) → Given unlimited file n p o d → Not (n ≡ 13) × Not (n ≡ 14)
never file _ _ _ _ (too_long long) = ((λ z. omega arith), λ z. omega arith)
never file n _ o d (unread {b} short c u) = let k = to_9 file b.at b.rest n o d u in ((λ z. omega arith), λ z. omega arith)
never file _ _ _ _ (input_over short c none other last) = ((λ z. omega arith), λ z. omega arith)
never file n _ _ d (misjudged {b} {s} {rest'} short c well row) =
    let at = comes_walks_to c in
    let k = walks_to_ample at.reaches in
    let few = k.0 in
    let fewer = k.1.low in
    let forward = goes (reads_as file b.at b.rest (section_there file b.at b.rest s rest' well)) in
    let sections : at.reached.sections ≡ b.sections = ap (λ (b : Stand). b.sections) at.stood in
    let lines : at.reached.lines ≡ b.lines = ap (λ (b : Stand). b.lines) at.stood in
    let rows = full unlimited b s.number n d row in
    ((λ z. let h = rows.0 z in omega arith), λ z. let h = rows.1 z in omega arith)

pub unlimited_is_never_full : UnlimitedIsNeverFull
unlimited_is_never_full file = ((λ e. (so 13 (λ z. omega arith) e).0 refl), λ e. (so 14 (λ z. omega arith) e).1 refl)
  where
    end : End
    end = end_of (walked unlimited file).outcome

    so : (n : ℕ) → Not (n ≡ 0) → end.outcome ≡ n → Not (n ≡ 13) × Not (n ≡ 14)
    so n some e =
        never file n end.place end.offset end.detail
        ((walk_refused_exactly_when unlimited file n end.place end.offset end.detail some).0 (rw e))
