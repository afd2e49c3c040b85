-- `row_of` meets its contract: behind the last row there is none, else the row's columns.
use Rattle.std.specs.Prelude.{Option}
use Prim.Native.Nat.{ℕ, ◌/◌, ◌%◌, ◌<◌}
use native.Mathlib.Omega.{arith}
use mathlib.Core.Path.{◌≡◌}
use mathlib.Core.List.{List}
use lib.ListN.{length, get_or, get_or-eq_default}
use Rattle.products.specs.Rows.{none, column, columns}
use Rattle.products.specs.declared.templates.TimeOctets.TheVariants.{Four}
use Rattle.products.proofs.EachEntry.{inside_it}
use Rattle.products.proofs.templates.row_of.Goals as goal

read : (lent : List ℕ) (n : ℕ) (process time surfaces : Option ℕ) → n < length lent
    → process ≡ column (get_or lent n 0 % 256) → time ≡ column (get_or lent n 0 / 256 % 256)
    → surfaces ≡ column (get_or lent n 0 / 65536)
    → record { process = process; time = time; width = Four; surfaces = surfaces }
    ≡ columns (get_or lent n none)
unfolding columns
read lent n process time surfaces inside p t s = rw (p, t, s, inside_it lent n 0 none inside)

pub returns-then-rows-at : goal.returns-then-rows-at
unfolding columns column
returns-then-rows-at c = rw (get_or-eq_default _ none c.if-rows-at.true)

pub returns : goal.returns
returns c =
    let a = c.args in
    read a.rows.now a.template _ _ _ (omega arith) c.column_of.ensures
    c.column_of-2.ensures
    c.column_of-3.ensures
