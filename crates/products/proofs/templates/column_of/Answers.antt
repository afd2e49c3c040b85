-- `column_of` meets its contract.
use borrow.Author.Tests.{eq-eqb, ne_eqb}
use Rattle.products.specs.Rows.{column}
use Rattle.products.proofs.templates.column_of.Goals as goal

pub returns-then-octet-eq-NO : goal.returns-then-octet-eq-NO
unfolding column
returns-then-octet-eq-NO c = simp (eq-eqb _ _ c.if-octet-eq-NO.true)

pub returns : goal.returns
unfolding column
returns c = simp (ne_eqb _ _ c.if-octet-eq-NO.false)
