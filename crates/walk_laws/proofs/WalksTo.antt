-- Where a walk comes to, by the definitions: each section before was read and passed. It is where it comes to by the rows.
use Prim.Native.Nat.{ℕ, ◌+◌}
use mathlib.Core.Path.{◌≡◌, refl, sym, ap, subst, ◌∙◌}
use mathlib.Core.List.{List}
use Rattle.octets.specs.Words.{Not}
use Rattle.framing.specs.Framing.{read_at}
use Rattle.framing.specs.declared.read.Section.{Section}
use Rattle.framing.specs.declared.read.Cursor.{Cursor}
use Rattle.framing.specs.Read as read
use Rattle.order.specs.declared.Order.TheVariants.{BetweenMessages}
use Rattle.index.specs.declared.line.Line.{Line}
use Rattle.index.specs.declared.bounds.Room.{Room}
use Rattle.index.specs.Walk.{Reached, at_start, passes, judgement}
use Rattle.walk_laws.specs.Rows.{NoRow}
use Rattle.walk_laws.specs.ExactlyWhen.{Stand, rows_after_read, lines_behind, WellRead, Comes, started, goes_further}
use Rattle.walk_laws.proofs.OneRead.{Tells, reads, tells, section_there}
use Rattle.walk_laws.proofs.OneSection.{stand_of, Arrives, Judges, goes, judges, passed_there}

-- it comes to a read at `at` with `rest` octets to come and with `r` reached
pub data WalksTo (room : Room) (file : List ℕ) : ℕ → ℕ → Reached → Type 0 where
  from_start : WalksTo room file 0 0 (at_start file)
  step_on : {at rest closed : ℕ} {r reached : Reached} {s : Section} {cursor : Cursor} {lines : List Line}
      → WalksTo room file at rest r
      → read_at file at rest ≡ read.Section s cursor
      → judgement room r s ≡ passes lines closed reached
      → WalksTo room file cursor.at.0 cursor.rest reached

-- a section that is read is well read by its rows, and the next read is made at its end
pub record ReadSo (file : List ℕ) (at rest : ℕ) (s : Section) (cursor : Cursor) : Type 0 where
  pub well : WellRead file at rest s cursor.rest
  pub next : cursor.at.0 ≡ s.offset.0 + s.length

pub read_so : (file : List ℕ) (at rest : ℕ) {s : Section} {cursor : Cursor} → read_at file at rest ≡ read.Section s cursor
    → ReadSo file at rest s cursor
read_so file at rest e = go (subst (Tells file at rest) e (tells file at rest))
  where
    go : {s : Section} {cursor : Cursor} → Tells file at rest (read.Section s cursor) → ReadSo file at rest s cursor
    go (reads w) = record { well = w; next = refl }

-- and one that is passed is passed by its rows
pub record PassedSo (room : Room) (r : Reached) (s : Section) (reached : Reached) : Type 0 where
  pub none : NoRow (rows_after_read room (stand_of 0 0 r) s.number)
  pub arrives : Arrives r s reached

pub passed_so : (room : Room) (r : Reached) (s : Section) {lines : List Line} {closed : ℕ} {reached : Reached}
    → judgement room r s ≡ passes lines closed reached → PassedSo room r s reached
passed_so room r s e = go (subst (Judges room r s) e (judges room r s))
  where
    go : {lines : List Line} {closed : ℕ} {reached : Reached} → Judges room r s (passes lines closed reached) → PassedSo room r s reached
    go (goes none arrives) = record { none = none; arrives = arrives }

-- one stand
same_stand : (at at' rest sections sections' lines lines' last last' : ℕ) {order order' : _} → at ≡ at' → sections ≡ sections'
    → lines ≡ lines' → order ≡ order' → last ≡ last'
    → ◌≡◌ {A = Stand} (record { at = at; rest = rest; sections = sections; lines = lines; order = order; last = last })
    (record { at = at'; rest = rest; sections = sections'; lines = lines'; order = order'; last = last' })
same_stand at at' rest sections sections' lines lines' last last' a b c d e = rw (a, b, c, d, e) refl

-- where a walk comes to by the definitions it comes to by the rows
pub walks_to_comes : {room : Room} {file : List ℕ} {at rest : ℕ} {r : Reached} → WalksTo room file at rest r → Comes room file (stand_of at rest r)
walks_to_comes from_start = started
walks_to_comes {room} {file} (step_on {at} {rest} {r = r} {reached} {s} {cursor} before e f) =
    let here = read_so file at rest e in
    let gone = passed_so room r s f in
    let arrives = gone.arrives in
    subst (Comes room file)
    (same_stand _ _ cursor.rest _ _ _ _ _ _ (sym here.next) (sym arrives.one) (sym arrives.lines) (sym arrives.order)
    (sym (ap (λ (l : _). l.section.offset.0) arrives.last)))
    (goes_further (walks_to_comes before) here.well gone.none)

-- and the other way: what is reached at a stand
pub record ReachedAt (room : Room) (file : List ℕ) (b : Stand) : Type 0 where
  pub reached : Reached
  pub reaches : WalksTo room file b.at b.rest reached
  pub stood : stand_of b.at b.rest reached ≡ b

pub comes_walks_to : {room : Room} {file : List ℕ} {b : Stand} → Comes room file b → ReachedAt room file b
comes_walks_to {file = file} started = record { reached = at_start file; reaches = from_start; stood = refl }
comes_walks_to {room} {file} (goes_further {b} {s} {rest'} before well none) =
    let at = comes_walks_to before in
    let r = at.reached in
    let gone = passed_there room r s (subst (λ (b : Stand). NoRow (rows_after_read room b s.number)) (sym at.stood) none) in
    let arrives = gone.arrives in
    let stood = at.stood in
    record {
      reached = gone.reached;
      reaches = step_on at.reaches (section_there file b.at b.rest s rest' well) gone.goes;
      stood =
          same_stand _ _ rest' _ _ _ _ _ _ refl (arrives.one ∙ ap (λ (b : Stand). b.sections + 1) stood)
          (arrives.lines ∙ ap (λ (b : Stand). lines_behind b.order b.lines) stood) arrives.order
          (ap (λ (l : _). l.section.offset.0) arrives.last);
    }

-- the section read last, where one was
pub last_there : {room : Room} {file : List ℕ} {at rest : ℕ} {r : Reached} → WalksTo room file at rest r → Not (r.order ≡ BetweenMessages)
    → r.sections ≡ r.last.place.0 + 1
last_there from_start inside = absurd (inside refl)
last_there {room} (step_on {r = r} {s = s} before e f) inside =
    let arrives = (passed_so room r s f).arrives in
    rw arrives.last arrives.one
