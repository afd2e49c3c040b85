-- `inventory` meets its contract: 1, the walk's own refusals, 20, then the text.
use mathlib.Core.Path.{refl}
use borrow.Author.Rules.{rules}
use Rattle.products.specs.Rows.{rows}
use Rattle.inventory.proofs.Answers.{refused, too_long, too_small, whole}
use Rattle.inventory.proofs.inventory.Goals as goal

pub returns-then-file-gt-MOST_OCTETS : goal.returns-then-file-gt-MOST_OCTETS
returns-then-file-gt-MOST_OCTETS c =
    let args = c.args in
    let all = too_long args.file.now args.text.now c.if-file-gt-MOST_OCTETS.true in
    record { answer = all.0; text = all.1 }

-- the code's table is the list of rows
pub put_lines-measured-requires : goal.put_lines-measured-requires
unfolding rows
put_lines-measured-requires c = (refl, search rules)

pub returns-then-text-octets : goal.returns-then-text-octets
returns-then-text-octets c =
    let args = c.args in
    let all = too_small args.file.now args.text.now c.put_lines-measured.ensures c.in-Ok.is
    c.if-text-octets.true in
    record { answer = all.0; text = all.1 }

pub put_lines-written-requires : goal.put_lines-written-requires
unfolding rows
put_lines-written-requires c = (refl, search rules)

pub returns-in-Err : goal.returns-in-Err
returns-in-Err c =
    let args = c.args in
    let all = refused args.file.now args.text.now c.put_lines-measured.ensures c.in-Err.is in
    record { answer = all.0; text = all.1 }

pub returns-else-text-octets : goal.returns-else-text-octets
returns-else-text-octets c =
    let args = c.args in
    let all = whole args.file.now args.text.now c.put_lines-measured.ensures c.in-Ok.is
    c.if-text-octets.false c.put_lines-written.ensures in
    record { answer = all.0; text = all.1 }
