-- `step` meets its contract: what is to come from each section on is the whole step.
use mathlib.Core.Path.{refl, ◌∙◌}
use native.Mathlib.Omega.{arith}
use Rattle.standing.proofs.Passed.{in_force_local, in_force_kept, in_force_early}
use Rattle.walk.proofs.Steps as N
use Rattle.walk.proofs.lines.step.Goals as goal

pub loop-section-init : goal.loop-section-init
loop-section-init c = rw c.standing_of-at.ensures (N.begins _ _ _ _ c.requires)

pub offset_bounds-places-section : goal.offset_bounds-places-section
offset_bounds-places-section c =
    let so_far = c.loop-section.invariant in
    let lone = N.lone so_far c.glance-seen.ensures c.row_only-only.ensures c.in-Some.is in
    omega (arith, N.kept_number so_far lone)

pub bounds-places-section : goal.bounds-places-section
bounds-places-section c =
    let so_far = c.loop-section.invariant in
    N.kept_number so_far (N.lone so_far c.glance-seen.ensures c.row_only-only.ensures c.in-Some.is)

pub loop-section-smaller-then-section-gt-NUMBER : goal.loop-section-smaller-then-section-gt-NUMBER
loop-section-smaller-then-section-gt-NUMBER c =
    let so_far = c.loop-section.invariant in
    N.falls_to so_far (N.lone so_far c.glance-seen.ensures c.row_only-only.ensures c.in-Some.is) c.passed_row-at.ensures

-- its place is kept ..
pub loop-section-preserved-then-section-gt-NUMBER : goal.loop-section-preserved-then-section-gt-NUMBER
loop-section-preserved-then-section-gt-NUMBER c =
    let so_far = c.loop-section.invariant in
    let lone = N.lone so_far c.glance-seen.ensures c.row_only-only.ensures c.in-Some.is in
    N.goes so_far lone (in_force_kept c.loop-section.at _ _ _ _ _ _ c.if-section-gt-NUMBER.true (N.kept_number so_far lone))
    c.passed_row-at.ensures c.put_row.ensures

pub loop-section-smaller-then-section-eq-NUMBER : goal.loop-section-smaller-then-section-eq-NUMBER
loop-section-smaller-then-section-eq-NUMBER c =
    let so_far = c.loop-section.invariant in
    N.falls_to so_far (N.lone so_far c.glance-seen.ensures c.row_only-only.ensures c.in-Some.is) c.passed_row-at.ensures

-- .. or it is a section 2 ..
pub loop-section-preserved-then-section-eq-NUMBER : goal.loop-section-preserved-then-section-eq-NUMBER
loop-section-preserved-then-section-eq-NUMBER c =
    let so_far = c.loop-section.invariant in
    let lone = N.lone so_far c.glance-seen.ensures c.row_only-only.ensures c.in-Some.is in
    N.goes so_far lone (in_force_local c.loop-section.at _ _ _ _ _ _ c.if-section-eq-NUMBER.true) c.passed_row-at.ensures
    c.put_row.ensures

pub loop-section-smaller : goal.loop-section-smaller
loop-section-smaller c =
    let so_far = c.loop-section.invariant in
    N.falls_to so_far (N.lone so_far c.glance-seen.ensures c.row_only-only.ensures c.in-Some.is) c.passed_row-at.ensures

-- .. or one before it, which may say where its message stands
pub loop-section-preserved : goal.loop-section-preserved
loop-section-preserved c =
    let so_far = c.loop-section.invariant in
    let lone = N.lone so_far c.glance-seen.ensures c.row_only-only.ensures c.in-Some.is in
    N.goes so_far lone
    (in_force_early c.loop-section.at _ _ _ _ _ _ c.if-section-gt-NUMBER.false c.if-section-eq-NUMBER.false
    ∙ rw c.span_after-span.ensures refl)
    c.passed_row-at.ensures c.put_row.ensures

pub returns-in-None : goal.returns-in-None
returns-in-None c =
    let so_far = c.loop-section.invariant in
    let last = N.last_is so_far c.glance-seen.ensures c.row_only-only.ensures c.in-None.is c.resumed.ensures c.turn-next.ensures in
    let whole = N.done so_far last c.put_passed.ensures in
    record { tally = whole.0; table = whole.1 }
