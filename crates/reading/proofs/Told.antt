-- What a walk tells from a place of the file on, by the section that is seen there: the one law that every loop over `look` cites.
use Rattle.std.specs.Prelude.{None, Ok, Err}
use mathlib.Core.Path.{◌≡◌, refl, sym, ap, ◌∙◌}
use mathlib.Core.Bool.{Bool, true, false}
use mathlib.Core.List.{List, [], ◌∷◌}
use Prim.Native.Nat.{ℕ}
use lib.Dec.{ltb, leb}
use lib.ListN.{length}
use Rattle.octets.specs.Words.{pick}
use Rattle.order.specs.Order.{judged, judged_read, completes, is_between}
use Rattle.order.specs.declared.Order.{Order}
use Rattle.order.specs.declared.Order.TheVariants.{SubmessageStart}
use Rattle.order.specs.declared.Judged.{Judged}
use Rattle.order.specs.declared.Judged.TheVariants as order
use Rattle.order.proofs.Laws.{closes_only, no_grid_only, completes_only, starts_next}
use Rattle.framing.specs.Framing.{read_at}
use Rattle.framing.specs.Listing.{Listing, listed_by}
use Rattle.framing.specs.declared.read.Section.{Section}
use Rattle.framing.specs.declared.read.Cursor.{Cursor}
use Rattle.framing.specs.Read.{Read}
use Rattle.framing.specs.Read as read
use Rattle.framing.proofs.Listing.{listing_on, listing_next, listing_is}
use Rattle.framing.proofs.Tests.{by_test}
use Rattle.index.specs.Lines.{place, line_of}
use Rattle.index.specs.declared.line.Line.{Line}
use Rattle.index.specs.declared.refusal.Refusal.TheVariants as refusal
use Rattle.index.specs.Bounds.{most_octets}
use Rattle.index.specs.declared.bounds.Room.{Room}
use Rattle.index.specs.Walk.{
  Reached,
  at_start,
  Judgement,
  stops,
  fitted,
  closing,
  by_order,
  gone_on,
  judgement,
  Told,
  ends,
  concluded,
  followed,
  walked_from,
  walked,
}
use Rattle.reading.specs.Reading as spec
use Rattle.reading.specs.declared.Seen.{Seen}
use Rattle.reading.specs.declared.Seen.TheVariants.{Passes, Closes, Misplaced, NoGrid, Clean, InputOver, Unreadable}
use Rattle.reading.proofs.Between.{as_judged}
use Rattle.index.specs.Outcome.{refused_there}

-- what a walk tells from a cursor on
unfoldable pub told_from : List ℕ → Room → Reached → Cursor → Told
told_from file room r cursor =
    let rest = listing_on file cursor.at.0 cursor.rest in
    walked_from room r rest.sections rest.ending

-- a section that first completes a submessage, or does not: 14, then what is said of it
abbrev pub completed : Bool → Room → Reached → (Reached → List Line → Judgement) → Judgement
completed true room r then =
    pick (leb room.lines r.lines) (stops [] refusal.SubmessageTableFull)
    (then (gone_on r) (line_of r.force None ∷ []))
completed false room r then = then r []

-- what a walk tells because of what is seen, put before what it tells from there on
unfoldable pub told_by : List ℕ → Room → Reached → Seen → Told
told_by file room r (Passes s next) =
    followed r s (completed (completes r.order s.number) room r (λ r' lines. fitted room r' s lines next.order))
    (λ r'. told_from file room r' next.cursor)
told_by file room r (Closes s next) = followed r s (closing room r s) (λ r'. told_from file room r' next.cursor)
told_by file room r (Misplaced s) =
    followed r s (completed (completes r.order s.number) room r (λ r' lines. stops lines (refusal.Misplaced s.number))) (λ r'. ends (Ok tt))
told_by file room r (NoGrid s) = followed r s (stops [] (refusal.NoGrid s.number)) (λ r'. ends (Ok tt))
told_by file room r Clean = ends (Ok tt)
told_by file room r InputOver = ends (Err (refused_there refusal.InputOver r.last.place r.last.section.offset))
told_by file room r (Unreadable fault offset) = ends (Err (refused_there (refusal.Unreadable fault) (place r.sections) offset))

-- a section that completes a submessage is judged as the start of the next one
judges : (room : Room) (r : Reached) (s : Section) (t : Bool) → completes r.order s.number ≡ t
    → judgement room r s
    ≡ completed t room r (λ r' lines. by_order (judged r.order s.number) room r' s lines)
unfolding judgement
judges room r s true e =
    let only = completes_only r.order s.number e in
    let same : judged SubmessageStart s.number ≡ judged r.order s.number =
    sym (starts_next s.number only.1) ∙ ap (λ (o : Order). judged o s.number) (sym only.0) in
    rw (e, same)
judges room r s false e = rw e

-- what neither closes a message nor lacks a grid may complete a submessage
closes_none : (before : Order) (number : ℕ) → judged before number ≡ order.Closes → completes before number ≡ false
unfolding completes
closes_none before number e = let only = closes_only before number e in rw (only.0, only.1)

no_grid_none : (before : Order) (number : ℕ) → judged before number ≡ order.NoGrid → completes before number ≡ false
unfolding completes
no_grid_none before number e = let only = no_grid_only before number e in rw only.0

module _ (file : List ℕ) (room : Room) (r : Reached) where
  -- a well-read section, by what the order says of it
  by_order_lem : (s : Section) (cursor : Cursor) (j : Judged) → judged r.order s.number ≡ j
      → followed r s (completed (completes r.order s.number) room r (λ r' lines. by_order j room r' s lines))
      (λ r'. told_from file room r' cursor)
      ≡ told_by file room r (spec.seen_by_order j s cursor)
  unfolding by_order told_by spec.seen_by_order
  by_order_lem s cursor (order.Fits next) e = refl
  by_order_lem s cursor order.Closes e = rw (closes_none r.order s.number e)
  by_order_lem s cursor order.Misplaced e = stopping (completes r.order s.number)
    where
      later : Reached → Told
      later r' = told_from file room r' cursor

      later' : Reached → Told
      later' r' = ends (Ok tt)

      -- where the walk stops nothing comes later
      stopping : (t : Bool)
          → followed r s (completed t room r (λ r' lines. stops lines (refusal.Misplaced s.number))) later
          ≡ followed r s (completed t room r (λ r' lines. stops lines (refusal.Misplaced s.number))) later'
      stopping true =
          by_test (λ (j : Judgement). followed r s j later ≡ followed r s j later') (leb room.lines r.lines) (λ t. refl) (λ t. refl)
      stopping false = refl
  by_order_lem s cursor order.NoGrid e = rw (no_grid_none r.order s.number e)

  -- the input over
  by_over : (t : Bool) → is_between r.order ≡ t
      → ends (pick t (Ok tt) (Err (refused_there refusal.InputOver r.last.place r.last.section.offset)))
      ≡ told_by file room r (pick t Clean InputOver)
  unfolding told_by
  by_over true e = refl
  by_over false e = refl

  by_read : (next : Read)
      → ((s : Section) (cursor : Cursor) → next ≡ read.Section s cursor → judged_read r.order s.number ≡ judged r.order s.number)
      → walked_from room r (listed_by next (listing_on file)).sections (listed_by next (listing_on file)).ending
      ≡ told_by file room r (spec.seen_by_read next r.order)
  unfolding walked_from concluded told_from told_by spec.seen_by_read spec.over_in
  by_read (read.Section s cursor) same =
      ap (λ (j : Judgement). followed r s j (λ r'. told_from file room r' cursor)) (judges room r s _ refl)
      ∙ by_order_lem s cursor (judged r.order s.number) refl
      ∙ ap (λ (j : Judged). told_by file room r (spec.seen_by_order j s cursor)) (sym (same s cursor refl))
  by_read read.Over same = by_over (is_between r.order) refl
  by_read (read.Refused fault offset) same = refl

  -- what a walk tells from a cursor on is what is seen there, and what it tells from there on
  pub told_next : (cursor : Cursor) → spec.Settled (spec.reading cursor r.order)
      → told_from file room r cursor ≡ told_by file room r (spec.seen file (spec.reading cursor r.order))
  unfolding spec.seen told_from
  told_next cursor settled =
      ap (λ (l : Listing). walked_from room r l.sections l.ending) (listing_next file cursor.at.0 cursor.rest)
      ∙ by_read (read_at file cursor.at.0 cursor.rest)
      (λ s next e. as_judged file (spec.reading cursor r.order) settled e)

-- the walk of a file is that from its start on, unless the file is over 2^40 octets
pub told_start : (file : List ℕ) (room : Room)
    → walked room file
    ≡ pick (ltb most_octets (length file)) (ends (Err (refused_there refusal.FileTooLong (place 0) (record { 0 = 0 }))))
    (told_from file room (at_start file) (spec.start).cursor)
unfolding walked told_from
told_start file room =
    ap (λ (l : Listing). pick (ltb most_octets (length file)) (ends (Err (refused_there refusal.FileTooLong (place 0) (record { 0 = 0 }))))
    (walked_from room (at_start file) l.sections l.ending))
    (listing_is file)
