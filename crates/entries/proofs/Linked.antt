-- What this crate gives to a link: its table, and of each public function that its code stands in
-- every world that holds this table and those below it.
use mathlib.Core.Bool.{true}
use prog.Linked.{World, Tree, Holds, in_world}
use prog.LinkedThreads.{HasT}
use Rattle.entries.proofs.TheLink as link
use Rattle.entries.proofs.line.spell.Symbol as code_of_spell

unfoldable pub table : Tree
table = link.table

-- the world holds this table, and the tables below
abbrev pub Stands : World → Type 0
Stands W = Holds W "entries" table

pub linked_spell : (W : World) → Stands W → HasT (in_world W) true code_of_spell.code
unfolding table
linked_spell W stands = link.«linked-entries::line::spell» W stands tt
