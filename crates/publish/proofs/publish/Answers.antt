-- `publish` meets its contract: 1, 19, then by how the walk ends.
use mathlib.Core.Path.{sym, ◌∙◌}
use Rattle.publish.specs.Copy.{by_outcome}
use Rattle.publish.proofs.Answers.{too_long, too_short, by_walk}
use Rattle.publish.proofs.publish.Goals as goal

pub returns-then-file-gt-MOST_OCTETS : goal.returns-then-file-gt-MOST_OCTETS
returns-then-file-gt-MOST_OCTETS c =
    let args = c.args in
    let e = too_long args.file.now args.dest.now c.if-file-gt-MOST_OCTETS.true in
    record { answer = rw e; dest = rw e }

pub returns-then-dest-file : goal.returns-then-dest-file
returns-then-dest-file c =
    let args = c.args in
    let e = too_short args.file.now args.dest.now c.if-file-gt-MOST_OCTETS.false c.if-dest-file.true in
    record { answer = rw e; dest = rw e }

pub returns-in-Err : goal.returns-in-Err
unfolding by_outcome
returns-in-Err c =
    let args = c.args in
    let ends = sym c.outcome_of-outcome.ensures ∙ c.in-Err.is in
    let e = by_walk args.file.now args.dest.now c.if-file-gt-MOST_OCTETS.false c.if-dest-file.false ends in
    record { answer = rw e; dest = rw e }

pub returns-in-Ok : goal.returns-in-Ok
unfolding by_outcome
returns-in-Ok c =
    let args = c.args in
    let ends = sym c.outcome_of-outcome.ensures ∙ c.in-Ok.is in
    let whole = by_walk args.file.now args.dest.now c.if-file-gt-MOST_OCTETS.false c.if-dest-file.false ends in
    record { answer = rw whole; dest = rw whole c.put_copy.ensures }
