-- Turns of which a row is all that comes, one after the other: what `step` keeps.
use Rattle.std.specs.Prelude.{Option, Some, None}
use mathlib.Core.Path.{◌≡◌, refl, sym, ap, subst, ◌∙◌}
use mathlib.Core.Bool.{false}
use mathlib.Core.List.{List}
use Prim.Native.Nat.{ℕ, suc, ◌-◌, ◌<◌}
use native.Mathlib.Omega.{arith}
use lib.Dec.{leb}
use lib.ListN.{length}
use borrow.Author.Tests.{lt-leb, leb-false}
use Rattle.framing.specs.declared.read.Section.{Section}
use Rattle.framing.proofs.Tests.{by_test}
use Rattle.order.specs.Order.{completes}
use Rattle.order.specs.declared.Place.{Place}
use Rattle.index.specs.Lines.{place}
use Rattle.index.specs.declared.bounds.Room.{Room}
use Rattle.index.specs.declared.line.Span.{Span}
use Rattle.reading.specs.Reading.{Settled, seen}
use Rattle.reading.specs.declared.Reading.{Reading}
use Rattle.reading.specs.declared.Seen.{Seen}
use Rattle.reading.specs.declared.Seen.TheVariants.{Passes, Closes, Misplaced, NoGrid, Clean, InputOver, Unreadable}
use Rattle.reading.proofs.Moves.{passes_stands, passes_kept, passes_settled}
use Rattle.standing.specs.declared.Standing.{Standing}
use Rattle.walk.specs.declared.tally.Tally.{Tally}
use Rattle.standing.specs.Put.{row_put}
use Rattle.standing.specs.Standing.{force_in, passed_row}
use Rattle.standing.specs.Tables.{room_of}
use Rattle.standing.proofs.Put.{row_length}
use Rattle.standing.proofs.Passed.{behind}
use Rattle.walk.specs.Turns.{
  rows_after,
  fresh_of,
  standing_of,
  resumed_of,
  passed_of,
  fitted_of,
  taken_of,
  by_seen,
  turn_of,
  row_only,
  Stepped,
  steps_of,
  step_of,
}

-- a section passes, has room for its row and completes nothing
pub record Alone (room : Room) (at : Standing) (v : Seen) (s : Section) (next : Reading) : Type 0 where
  pub sees : v ≡ Passes s next
  pub free : at.sections < room.rows
  pub lone : completes at.reading.order s.number ≡ false

-- .. where a row is all that comes of it
abbrev Says : Room → Standing → Seen → Option (Section × Reading) → Type 0
Says room at v (Some (s, next)) = Alone room at v s next
Says room at v None = Unit

says : (room : Room) (at : Standing) (v : Seen) → Says room at v (row_only room at v)
unfolding row_only
says room at (Passes s next) =
    by_test (Says room at (Passes s next)) (leb room.rows at.sections) (λ full. tt) λ left.
    by_test (Says room at (Passes s next)) (completes at.reading.order s.number) (λ c. tt) λ c.
    record { sees = refl; free = leb-false room.rows at.sections left; lone = c }
says room at (Closes s next) = tt
says room at (Misplaced s) = tt
says room at (NoGrid s) = tt
says room at Clean = tt
says room at InputOver = tt
says room at (Unreadable fault offset) = tt

pub alone : (room : Room) (at : Standing) (v : Seen) {s : Section} {next : Reading} → row_only room at v ≡ Some (s, next) → Alone room at v s next
alone room at v e = subst (Says room at v) e (says room at v)

module _ (file : List ℕ) (room : Room) where
  abbrev pub OnlyRow : Tally → Section → Reading → Type 0
  OnlyRow t s next = row_only room (standing_of t) (seen file t.reading) ≡ Some (s, next)

  -- the turn passes it, and no more
  pub row_turn : (t : Tally) {s : Section} {next : Reading} → OnlyRow t s next → turn_of file room t ≡ passed_of (fresh_of t) s next
  unfolding turn_of by_seen taken_of fitted_of
  row_turn t e = let a = alone room (standing_of t) (seen file t.reading) e in rw (a.sees, a.lone, lt-leb _ _ a.free)

  goes_on : (most : ℕ) (t : Tally) (rows : List ℕ) {s : Section} {next : Reading} → OnlyRow t s next
      → steps_of file room (suc most) t rows
      ≡ steps_of file room most (fresh_of (passed_of (fresh_of t) s next)) (row_put t.sections s rows)
  unfolding steps_of rows_after
  goes_on most t rows e = rw (e, row_turn t e)

  stops : (most : ℕ) (t : Tally) (rows : List ℕ) → row_only room (standing_of t) (seen file t.reading) ≡ None
      → let u = turn_of file room t in
      steps_of file room (suc most) t rows ≡ record { tally = u; rows = rows_after u.passed u.last rows }
  unfolding steps_of
  stops most t rows e = rw e

-- what is to come from here on is the whole step
pub record Stepping (file rows₀ : List ℕ) (lines : ℕ) (room : Room) (before : Tally) (at : Standing) (span : Span) (local : Option Place)
    (places : List Place) (rows : List ℕ) : Type 0 where
  pub most : ℕ
  pub enough : length file - at.reading.cursor.at.0 < most
  pub comes : steps_of file room most (resumed_of at span local places) rows
      ≡ step_of file lines before rows₀
  pub room_is : room ≡ room_of (length rows₀) lines
  pub same_rows : length rows ≡ length rows₀
  pub settled : Settled at.reading

pub begins : (file rows₀ : List ℕ) (lines : ℕ) (before : Tally) → Settled before.reading
    → Stepping file rows₀ lines (room_of (length rows₀) lines) before (standing_of before) before.force.span before.force.local before.force.places rows₀
unfolding step_of steps_of turn_of
begins file rows₀ lines before settled =
    record { most = suc (length file); enough = omega arith; comes = refl; room_is = refl; same_rows = refl; settled = settled }

module _ {file rows₀ : List ℕ} {lines : ℕ} {room : Room} {before : Tally} {at : Standing} {span : Span} {local : Option Place} {places : List Place} {rows : List ℕ}
    (so_far : Stepping file rows₀ lines room before at span local places rows) where
  -- a turn is left
  one_left : so_far.most ≡ suc (so_far.most - 1)
  one_left = omega (arith, so_far.enough)

  comes : steps_of file room (suc (so_far.most - 1)) (resumed_of at span local places) rows
      ≡ step_of file lines before rows₀
  comes =
      subst
      (λ (n : ℕ).
      steps_of file room n (resumed_of at span local places) rows ≡ step_of file lines before rows₀)
      one_left so_far.comes

  -- what is seen here, as `row_only` tells it
  abbrev here : Option (Section × Reading)
  here = row_only room at (seen file at.reading)

  told : {v : Seen} {o p : Option (Section × Reading)} → v ≡ seen file at.reading → o ≡ row_only room at v → o ≡ p → here ≡ p
  told e f g = ap (λ (v : Seen). row_only room at v) (sym e) ∙ sym f ∙ g

  -- a section whose row is all
  pub record Lone (s : Section) (next : Reading) : Type 0 where
    pub is : here ≡ Some (s, next)

  pub lone : {v : Seen} {o : Option (Section × Reading)} {s : Section} {next : Reading} → v ≡ seen file at.reading → o ≡ row_only room at v → o ≡ Some (s, next) → Lone s next
  lone e f g = record { is = told e f g }

  module _ {s : Section} {next : Reading} (l : Lone s next) where
    what : Alone room at (seen file at.reading) s next
    what = alone room at (seen file at.reading) l.is

    pub kept_number : s.number < 8
    kept_number = passes_kept file at.reading so_far.settled what.sees

    pub falls : length file - next.cursor.at.0 < length file - at.reading.cursor.at.0
    falls =
        let stands = passes_stands file at.reading what.sees in
        omega (arith, stands.inside, stands.forward, stands.later)

    pub falls_to : {at' : Standing} → at' ≡ passed_row at s next
        → length file - at'.reading.cursor.at.0 < length file - at.reading.cursor.at.0
    falls_to same = rw same falls

    pub goes : {at' : Standing} {span' : Span} {local' : Option Place} {places' : List Place} {rows' : List ℕ}
        → behind (force_in at span local places) s next.cursor (place at.sections) ≡ force_in at span' local' places'
        → at' ≡ passed_row at s next → rows' ≡ row_put at.sections s rows
        → Stepping file rows₀ lines room before at' span' local' places' rows'
    goes {span' = span'} {local' = local'} {places' = places'} force same put =
        rw (same, put)
        (record {
          most = so_far.most - 1;
          enough = omega (arith, so_far.enough, falls);
          comes =
              next_is_lem
              ∙ sym (goes_on file room (so_far.most - 1) (resumed_of at span local places) rows l.is)
              ∙ comes;
          room_is = so_far.room_is;
          same_rows = row_length at.sections s rows ∙ so_far.same_rows;
          settled = passes_settled file at.reading so_far.settled what.sees;
        })
      where
        next_is_lem : steps_of file room (so_far.most - 1)
            (resumed_of (passed_row at s next) span' local' places') (row_put at.sections s rows)
            ≡ steps_of file room (so_far.most - 1)
            (fresh_of (passed_of (fresh_of (resumed_of at span local places)) s next))
            (row_put at.sections s rows)
        next_is_lem = rw force

  -- the turn behind them
  pub record Last (r : Tally) : Type 0 where
    pub more_than : here ≡ None
    pub is : r ≡ by_seen (seen file at.reading) room (resumed_of at span local places)

  pub last_is : {v : Seen} {o : Option (Section × Reading)} {f r : Tally} → v ≡ seen file at.reading → o ≡ row_only room at v → o ≡ None
      → f ≡ resumed_of at span local places → r ≡ by_seen v room f → Last r
  last_is e f g h k = record { more_than = told e f g; is = k ∙ rw (h, e) }

  module _ {r : Tally} (l : Last r) where
    pub done : {rows' : List ℕ} → rows' ≡ rows_after r.passed r.last rows
        → (r ≡ (step_of file lines before rows₀).tally) × (rows' ≡ (step_of file lines before rows₀).rows)
    unfolding turn_of
    done stored =
        let whole =
        sym (stops file room (so_far.most - 1) (resumed_of at span local places) rows l.more_than)
        ∙ comes in (
          l.is ∙ ap (λ (x : Stepped). x.tally) whole,
          stored ∙ ap (λ (u : Tally). rows_after u.passed u.last rows) l.is ∙ ap (λ (x : Stepped). x.rows) whole,
        )
