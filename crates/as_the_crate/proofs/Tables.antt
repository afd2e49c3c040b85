-- Tables that hold what a walk tells change nothing of it.
use Rattle.std.specs.Prelude.{Some, None}
use Prim.Native.Nat.{◌+◌, ◌≤◌}
use native.Mathlib.Omega.{arith}
use mathlib.Core.Path.{◌≡◌, refl}
use mathlib.Core.Bool.{Bool, true, false}
use mathlib.Core.List.{List, [], ◌∷◌}
use lib.Dec.{leb, eqb}
use lib.ListN.{length, length-append}
use borrow.Author.Tests.{lt-leb}
use Rattle.octets.specs.Words.{pick}
use Rattle.order.specs.Order.{judged, completes, at_submessage_start}
use Rattle.order.specs.declared.Order.{Order}
use Rattle.order.specs.declared.Order.TheVariants.{BetweenMessages, SubmessageStart}
use Rattle.order.specs.declared.Judged.{Judged}
use Rattle.order.specs.declared.Judged.TheVariants as judged
use Rattle.framing.specs.Listing.{Ending}
use Rattle.framing.specs.declared.read.Section.{Section}
use Rattle.framing.proofs.Tests.{by_test}
use Rattle.index.specs.Lines.{place, opened, line_of}
use Rattle.index.specs.declared.line.Line.{Line}
use Rattle.index.specs.declared.refusal.Refusal.TheVariants as refusal
use Rattle.index.specs.declared.bounds.Room.{Room}
use Rattle.index.specs.Walk.{Reached, here, comes_in_force, Judgement, stops, passes, fitted, closing, by_order, gone_on, judgement, Told, ends, concluded, followed, walked_from}

-- the judgement where no table can be full
abbrev pub freely_by : Judged → Reached → Section → List Line → Judgement
freely_by (judged.Fits order) r s lines =
    passes lines 0
    (record {
      file = r.file;
      sections = r.sections + 1;
      lines = r.lines;
      last = here r s;
      order = order;
      force = comes_in_force r.file r.force s (place r.sections);
    })
freely_by judged.Closes r s lines =
    passes (line_of r.force (Some (place r.sections)) ∷ []) 1
    (record {
      file = r.file;
      sections = r.sections + 1;
      lines = r.lines + 1;
      last = here r s;
      order = BetweenMessages;
      force = opened (r.force.message + 1);
    })
freely_by judged.Misplaced r s lines = stops lines (refusal.Misplaced s.number)
freely_by judged.NoGrid r s lines = stops lines (refusal.NoGrid s.number)

unfoldable pub freely : Reached → Section → Judgement
freely r s =
    pick (completes r.order s.number)
    (freely_by (judged SubmessageStart s.number) (gone_on r) s (line_of r.force None ∷ []))
    (freely_by (judged r.order s.number) r s [])

unfoldable pub freely_from : Reached → List Section → Ending → Told
freely_from r [] ending = ends (concluded r ending)
freely_from r (s ∷ more) ending = followed r s (freely r s) (λ reached. freely_from reached more ending)

-- the tables hold what a judgement tells, after what is told before
abbrev pub Holds : Room → Reached → Judgement → Type 0
Holds room r (stops lines why) = r.lines + length lines ≤ room.lines
Holds room r (passes lines closed reached) = (r.sections + 1 ≤ room.rows) × (r.lines + length lines ≤ room.lines)

-- what is told is counted
abbrev pub Counted : Reached → Judgement → Type 0
Counted r (stops lines why) = length lines ≤ 1
Counted r (passes lines closed reached) =
    (reached.sections ≡ r.sections + 1) × (reached.lines ≡ r.lines + length lines) × (length lines ≤ 1)

pub counted : (r : Reached) (s : Section) → Counted r (freely r s)
unfolding freely judged
counted r s =
    by_test (Counted r) (completes r.order s.number)
    (λ e.
    by_test J (eqb s.number 2) (λ e. (refl, refl, omega arith)) λ e.
    by_test J (eqb s.number 3) (λ e. (refl, refl, omega arith)) λ e.
    by_test J (eqb s.number 4) (λ e. (refl, refl, omega arith)) λ e. omega arith)
    (λ e. at_once (judged r.order s.number))
  where
    J : Judged → Type 0
    J j = Counted r (freely_by j (gone_on r) s (line_of r.force None ∷ []))

    at_once : (j : Judged) → Counted r (freely_by j r s [])
    at_once (judged.Fits order) = (refl, omega arith, omega arith)
    at_once judged.Closes = (refl, refl, omega arith)
    at_once judged.Misplaced = omega arith
    at_once judged.NoGrid = omega arith

pub same : (room : Room) (r : Reached) (s : Section) → Holds room r (freely r s) → judgement room r s ≡ freely r s
unfolding judgement freely judged by_order fitted closing
same room r s = go (completes r.order s.number)
  where
    line : List Line
    line = line_of r.force None ∷ []

    fits : (q : Reached) (lines : List Line) (order : Order) → q.sections + 1 ≤ room.rows
        → by_order (judged.Fits order) room q s lines ≡ freely_by (judged.Fits order) q s lines
    fits q lines order h = rw (lt-leb room.rows q.sections (omega arith))

    at_once : (j : Judged) → Holds room r (freely_by j r s []) → by_order j room r s [] ≡ freely_by j r s []
    at_once (judged.Fits order) h = fits r [] order h.0
    at_once judged.Closes h =
        rw (lt-leb room.rows r.sections (let a = h.0 in omega arith), lt-leb room.lines r.lines (let a = h.1 in omega arith))
    at_once judged.Misplaced h = refl
    at_once judged.NoGrid h = refl

    J : Judged → Type 0
    J j = Holds room r (freely_by j (gone_on r) s line)
        → pick (leb room.lines r.lines) (stops [] refusal.SubmessageTableFull) (by_order j room (gone_on r) s line)
        ≡ freely_by j (gone_on r) s line

    one : (order : Order) → J (judged.Fits order)
    one order h =
        rw (lt-leb room.lines r.lines (let a = h.1 in omega arith)) (fits (gone_on r) line order h.0)

    none : J judged.Misplaced
    none h = rw (lt-leb room.lines r.lines (omega arith))

    go : (t : Bool)
        → Holds room r (pick t (freely_by (at_submessage_start s.number) (gone_on r) s line) (freely_by (judged r.order s.number) r s []))
        → pick t
        (pick (leb room.lines r.lines) (stops [] refusal.SubmessageTableFull)
        (by_order (at_submessage_start s.number) room (gone_on r) s line))
        (by_order (judged r.order s.number) room r s [])
        ≡ pick t (freely_by (at_submessage_start s.number) (gone_on r) s line) (freely_by (judged r.order s.number) r s [])
    go true =
        by_test J (eqb s.number 2) (λ e. one _) λ e.
        by_test J (eqb s.number 3) (λ e. one _) λ e.
        by_test J (eqb s.number 4) (λ e. one _) λ e. none
    go false = at_once (judged r.order s.number)

-- any tables that hold it
pub in_tables : (ss : List Section) (e : Ending) (r : Reached) (room : Room)
    → r.sections + length (freely_from r ss e).sections ≤ room.rows
    → r.lines + length (freely_from r ss e).lines ≤ room.lines
    → walked_from room r ss e ≡ freely_from r ss e
unfolding walked_from freely_from
in_tables [] e r room rows lines = refl
in_tables (s ∷ ss) e r room rows lines = go (freely r s) (counted r s) (same room r s) rows lines (λ reached. in_tables ss e reached room)
  where
    go : (j : Judgement) → Counted r j → (Holds room r j → judgement room r s ≡ j)
        → r.sections + length (followed r s j (λ reached. freely_from reached ss e)).sections ≤ room.rows
        → r.lines + length (followed r s j (λ reached. freely_from reached ss e)).lines ≤ room.lines
        → ((q : Reached) → q.sections + length (freely_from q ss e).sections ≤ room.rows
        → q.lines + length (freely_from q ss e).lines ≤ room.lines → walked_from room q ss e ≡ freely_from q ss e)
        → followed r s (judgement room r s) (λ reached. walked_from room reached ss e) ≡ followed r s j (λ reached. freely_from reached ss e)
    go (stops told why) few is rows lines ih = rw (is lines)
    go (passes told closed reached) few is rows lines ih =
        let sum = length-append told (freely_from reached ss e).lines in
        let a = few.0 in
        let b = few.1 in
        rw (is (omega arith, omega arith), ih reached (omega arith) (omega arith))

-- no more is told than there are sections
pub few_told : (ss : List Section) (e : Ending) (r : Reached)
    → (length (freely_from r ss e).sections ≤ length ss) × (length (freely_from r ss e).lines ≤ length ss)
unfolding freely_from
few_told [] e r = (omega arith, omega arith)
few_told (s ∷ ss) e r = go (freely r s) (counted r s) (λ q. few_told ss e q)
  where
    go : (j : Judgement) → Counted r j
        → ((q : Reached) → (length (freely_from q ss e).sections ≤ length ss) × (length (freely_from q ss e).lines ≤ length ss))
        → (length (followed r s j (λ reached. freely_from reached ss e)).sections ≤ length (s ∷ ss))
        × (length (followed r s j (λ reached. freely_from reached ss e)).lines ≤ length (s ∷ ss))
    go (stops told why) few ih = (omega arith, omega arith)
    go (passes told closed reached) few ih =
        let sum = length-append told (freely_from reached ss e).lines in
        let a = (ih reached).0 in
        let b = (ih reached).1 in
        let c = few.2 in
        (omega arith, omega arith)
