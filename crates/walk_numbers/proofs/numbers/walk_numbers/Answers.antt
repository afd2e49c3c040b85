-- `walk_numbers` meets its contract: each section that is seen moves the walk on by one law of `InNumbers`, or ends it.
use mathlib.Core.Path.{◌≡◌, refl, sym, ap, ◌∙◌}
use mathlib.Core.List.{List}
use Prim.Native.Nat.{ℕ, ◌-◌, ◌<◌}
use native.Mathlib.Omega.{arith}
use lib.ListN.{length}
use Rattle.framing.specs.declared.read.Section.{Section}
use Rattle.index.specs.declared.bounds.Room.{Room}
use Rattle.reading.specs.Reading.{seen}
use Rattle.reading.specs.declared.Reading.{Reading}
use Rattle.reading.specs.declared.Seen.TheVariants.{Passes, Closes}
use Rattle.reading.proofs.Moves.{passes_stands, passes_kept, closes_stands}
use Rattle.walk_numbers.specs.Numbers.{line_numbers}
use Rattle.walk_numbers.specs.Moves.{unbegun}
use Rattle.standing.specs.declared.Standing.{Standing}
use Rattle.standing.proofs.Lent as T
use Rattle.standing.proofs.Passed.{in_force_local, in_force_kept, in_force_early}
use Rattle.walk_numbers.proofs.InNumbers as N
use Rattle.walk_numbers.proofs.InNumbers.{Passing, finished, in_room, fifteen}
use Rattle.walk_numbers.proofs.numbers.walk_numbers.Goals.{Joined-completes, then-completes+else-room-at, else-completes}
use Rattle.walk_numbers.proofs.numbers.walk_numbers.Goals as goal

-- behind a section less of the file is left
less_behind : (file : List ℕ) (from : Reading) {s : Section} {next after : Reading} → seen file from ≡ Passes s next → after ≡ next
    → length file - after.cursor.at.0 < length file - from.cursor.at.0
less_behind file from sees same =
    let stands = passes_stands file from sees in
    rw same (omega (arith, stands.inside, stands.forward, stands.later))

less_closed : (file : List ℕ) (from : Reading) {s : Section} {next after : Reading} → seen file from ≡ Closes s next → after ≡ next
    → length file - after.cursor.at.0 < length file - from.cursor.at.0
less_closed file from sees same =
    let stands = closes_stands file from sees in
    rw same (omega (arith, stands.inside, stands.forward, stands.later))

-- a section that fits, once the line before it is told, where there is one
passing : (c : Joined-completes)
    → Passing c.args.file.now c.args.rows.now c.args.lines.now c.if-completes.at c.loop-section.span c.loop-section.local c.loop-section.places
    c.loop-section.rows c.if-completes.lines c.in-Passes.section c.in-Passes.next
passing c =
    let sees = sym c.glance-seen.ensures ∙ c.in-Passes.is in
    elim c.if-completes.branch [
      | then-completes+else-room-at w ↦
          N.passing_behind _ _ _ c.loop-section.invariant sees (sym c.completes.ensures ∙ w.if-completes.true)
          (omega (arith, w.if-room-at.false, ap (λ (room : Room). room.lines) c.room_in-room.ensures)) (w.at-is ∙ w.told_line-at.ensures)
          (w.lines-is ∙ w.put_line.ensures ∙ rw w.line_in_hand.ensures)
      | else-completes w ↦
          N.passing_on _ _ _ c.loop-section.invariant sees (sym c.completes.ensures ∙ w.if-completes.false) w.at-is w.lines-is
    ]

kept_number : (c : Joined-completes) → c.in-Passes.section.number < 8
kept_number c = let p = passing c in passes_kept _ _ p.kept.settled p.sees

pub returns-then-file-gt-MOST_OCTETS : goal.returns-then-file-gt-MOST_OCTETS
returns-then-file-gt-MOST_OCTETS c =
    let whole = finished _ _ _ unbegun (T.too_long 15 line_numbers fifteen _ _ _ _ (in_room _) c.if-file-gt-MOST_OCTETS.true)
    c.too_long.ensures in
    record { answer = whole.0; rows = whole.1.0; lines = whole.1.1 }

pub loop-section-init : goal.loop-section-init
loop-section-init c =
    rw (c.unstated-span.ensures, c.unbegun-at.ensures)
    (T.begins 15 line_numbers fifteen _ _ _ _ (in_room _) (λ i. (c.type_inv.file i).fits) c.if-file-gt-MOST_OCTETS.false)

pub returns-then-room-at : goal.returns-then-room-at
returns-then-room-at c =
    let whole = finished _ _ _ c.loop-section.at
    (T.no_line 15 line_numbers fifteen _ _ _ _ (in_room _) c.loop-section.invariant (sym c.glance-seen.ensures ∙ c.in-Passes.is)
    (sym c.completes.ensures ∙ c.if-completes.true)
    (omega (arith, c.if-room-at.true, ap (λ (room : Room). room.lines) c.room_in-room.ensures)))
    c.refused.ensures in
    record { answer = whole.0; rows = whole.1.0; lines = whole.1.1 }

pub returns-then-room-at-2 : goal.returns-then-room-at-2
returns-then-room-at-2 c =
    let p = passing (goal.at.returns-then-room-at-2 c).Joined-completes in
    let whole = finished _ _ _ c.if-completes.at
    (T.no_row 15 line_numbers fifteen _ _ _ _ (in_room _) p.kept p.sees p.alone
    (omega (arith, c.if-room-at-2.true, ap (λ (room : Room). room.rows) c.room_in-room.ensures)))
    c.refused-then-room-at-2.ensures in
    record { answer = whole.0; rows = whole.1.0; lines = whole.1.1 }

pub offset_bounds-places-section : goal.offset_bounds-places-section
offset_bounds-places-section c = omega (arith, kept_number (goal.at.offset_bounds-places-section c).Joined-completes)

pub bounds-places-section : goal.bounds-places-section
bounds-places-section c = kept_number (goal.at.bounds-places-section c).Joined-completes

pub loop-section-smaller-then-section-gt-NUMBER : goal.loop-section-smaller-then-section-gt-NUMBER
loop-section-smaller-then-section-gt-NUMBER c =
    less_behind _ _ (sym c.glance-seen.ensures ∙ c.in-Passes.is) (ap (λ (r : Standing). r.reading) c.passed_row-at.ensures)

-- its place is kept ..
pub loop-section-preserved-then-section-gt-NUMBER : goal.loop-section-preserved-then-section-gt-NUMBER
loop-section-preserved-then-section-gt-NUMBER c =
    let joined = (goal.at.loop-section-preserved-then-section-gt-NUMBER c).Joined-completes in
    N.passed _ _ _ (passing joined)
    (omega (arith, c.if-room-at-2.false, ap (λ (room : Room). room.rows) c.room_in-room.ensures)) (omega arith)
    (in_force_kept c.if-completes.at _ _ _ _ c.in-Passes.next.cursor _ c.if-section-gt-NUMBER.true (kept_number joined))
    c.passed_row-at.ensures c.put_row.ensures

pub loop-section-smaller-then-section-eq-NUMBER : goal.loop-section-smaller-then-section-eq-NUMBER
loop-section-smaller-then-section-eq-NUMBER c =
    less_behind _ _ (sym c.glance-seen.ensures ∙ c.in-Passes.is) (ap (λ (r : Standing). r.reading) c.passed_row-at.ensures)

-- .. or it is a section 2 ..
pub loop-section-preserved-then-section-eq-NUMBER : goal.loop-section-preserved-then-section-eq-NUMBER
loop-section-preserved-then-section-eq-NUMBER c =
    let joined = (goal.at.loop-section-preserved-then-section-eq-NUMBER c).Joined-completes in
    N.passed _ _ _ (passing joined)
    (omega (arith, c.if-room-at-2.false, ap (λ (room : Room). room.rows) c.room_in-room.ensures)) (omega arith)
    (in_force_local c.if-completes.at _ _ _ _ c.in-Passes.next.cursor _ c.if-section-eq-NUMBER.true)
    c.passed_row-at.ensures c.put_row.ensures

pub offset_bounds-places-section-else-section-eq-NUMBER : goal.offset_bounds-places-section-else-section-eq-NUMBER
offset_bounds-places-section-else-section-eq-NUMBER c =
    omega (arith, kept_number (goal.at.offset_bounds-places-section-else-section-eq-NUMBER c).Joined-completes)

pub bounds-places-section-else-section-eq-NUMBER : goal.bounds-places-section-else-section-eq-NUMBER
bounds-places-section-else-section-eq-NUMBER c =
    kept_number (goal.at.bounds-places-section-else-section-eq-NUMBER c).Joined-completes

pub loop-section-smaller-else-section-eq-NUMBER : goal.loop-section-smaller-else-section-eq-NUMBER
loop-section-smaller-else-section-eq-NUMBER c =
    less_behind _ _ (sym c.glance-seen.ensures ∙ c.in-Passes.is) (ap (λ (r : Standing). r.reading) c.passed_row-at.ensures)

-- .. or one before it, which may say where its message stands
pub loop-section-preserved-else-section-eq-NUMBER : goal.loop-section-preserved-else-section-eq-NUMBER
loop-section-preserved-else-section-eq-NUMBER c =
    let joined = (goal.at.loop-section-preserved-else-section-eq-NUMBER c).Joined-completes in
    N.passed _ _ _ (passing joined)
    (omega (arith, c.if-room-at-2.false, ap (λ (room : Room). room.rows) c.room_in-room.ensures)) (omega arith)
    (in_force_early c.if-completes.at _ _ _ _ c.in-Passes.next.cursor _ c.if-section-gt-NUMBER.false c.if-section-eq-NUMBER.false
    ∙ rw c.span_after-span.ensures refl)
    c.passed_row-at.ensures c.put_row.ensures

pub returns-then-room-at-3 : goal.returns-then-room-at-3
returns-then-room-at-3 c =
    let whole = finished _ _ _ c.loop-section.at
    (T.no_row_closing 15 line_numbers fifteen _ _ _ _ (in_room _) c.loop-section.invariant (sym c.glance-seen.ensures ∙ c.in-Closes.is)
    (omega (arith, c.if-room-at-3.true, ap (λ (room : Room). room.rows) c.room_in-room.ensures)))
    c.refused-then-room-at-3.ensures in
    record { answer = whole.0; rows = whole.1.0; lines = whole.1.1 }

pub returns-then-room-at-4 : goal.returns-then-room-at-4
returns-then-room-at-4 c =
    let whole = finished _ _ _ c.loop-section.at
    (T.no_line_closing 15 line_numbers fifteen _ _ _ _ (in_room _) c.loop-section.invariant (sym c.glance-seen.ensures ∙ c.in-Closes.is)
    (omega (arith, c.if-room-at-3.false, ap (λ (room : Room). room.rows) c.room_in-room.ensures))
    (omega (arith, c.if-room-at-4.true, ap (λ (room : Room). room.lines) c.room_in-room.ensures)))
    c.refused-then-room-at-4.ensures in
    record { answer = whole.0; rows = whole.1.0; lines = whole.1.1 }

pub loop-section-smaller : goal.loop-section-smaller
loop-section-smaller c =
    less_closed _ _ (sym c.glance-seen.ensures ∙ c.in-Closes.is) (ap (λ (r : Standing). r.reading) c.closed_both-at.ensures)

pub loop-section-preserved : goal.loop-section-preserved
loop-section-preserved c =
    rw c.unstated-span-in-Closes.ensures
    (N.closed _ _ _ c.loop-section.invariant (sym c.glance-seen.ensures ∙ c.in-Closes.is)
    (omega (arith, c.if-room-at-3.false, ap (λ (room : Room). room.rows) c.room_in-room.ensures))
    (omega (arith, c.if-room-at-4.false, ap (λ (room : Room). room.lines) c.room_in-room.ensures))
    c.closed_both-at.ensures c.put_row-in-Closes.ensures (c.put_line-in-Closes.ensures ∙ rw c.line_in_hand-in-Closes.ensures))

pub returns-in-Misplaced : goal.returns-in-Misplaced
returns-in-Misplaced c =
    let whole = N.misplaced _ _ _ c.loop-section.invariant (sym c.glance-seen.ensures ∙ c.in-Misplaced.is) c.misplaced.ensures.answer
    (c.misplaced.ensures.lines ∙ rw c.line_in_hand-line.ensures) in
    record { answer = whole.0; rows = whole.1.0; lines = whole.1.1 }

pub returns-in-NoGrid : goal.returns-in-NoGrid
returns-in-NoGrid c =
    let whole = finished _ _ _ c.loop-section.at
    (T.no_grid 15 line_numbers fifteen _ _ _ _ (in_room _) c.loop-section.invariant (sym c.glance-seen.ensures ∙ c.in-NoGrid.is))
    c.refused-in-NoGrid.ensures in
    record { answer = whole.0; rows = whole.1.0; lines = whole.1.1 }

pub returns-in-Clean : goal.returns-in-Clean
returns-in-Clean c =
    let whole = finished _ _ _ c.loop-section.at
    (T.clean 15 line_numbers fifteen _ _ _ _ (in_room _) c.loop-section.invariant (sym c.glance-seen.ensures ∙ c.in-Clean.is))
    c.ended.ensures in
    record { answer = whole.0; rows = whole.1.0; lines = whole.1.1 }

pub returns-in-InputOver : goal.returns-in-InputOver
returns-in-InputOver c =
    let whole = finished _ _ _ c.loop-section.at
    (T.input_over_lem 15 line_numbers fifteen _ _ _ _ (in_room _) c.loop-section.invariant (sym c.glance-seen.ensures ∙ c.in-InputOver.is))
    c.input_over.ensures in
    record { answer = whole.0; rows = whole.1.0; lines = whole.1.1 }

pub returns-in-Unreadable : goal.returns-in-Unreadable
returns-in-Unreadable c =
    let whole = finished _ _ _ c.loop-section.at
    (T.unreadable 15 line_numbers fifteen _ _ _ _ (in_room _) c.loop-section.invariant (sym c.glance-seen.ensures ∙ c.in-Unreadable.is))
    c.unreadable.ensures in
    record { answer = whole.0; rows = whole.1.0; lines = whole.1.1 }
