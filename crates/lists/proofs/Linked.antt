-- What this crate gives to a link: its table, and of each public function that its code stands in
-- every world that holds this table and those below it.
use mathlib.Core.Bool.{true}
use prog.Linked.{World, Tree, Holds, in_world}
use prog.LinkedThreads.{HasT}
use Rattle.standing.proofs.Linked as standing_link
use Rattle.lists.proofs.TheLink as link
use Rattle.lists.proofs.list_end.Symbol as code_of_list_end
use Rattle.lists.proofs.read_list.Symbol as code_of_read_list

unfoldable pub table : Tree
table = link.table

-- the world holds this table, and the tables below
abbrev pub Stands : World → Type 0
Stands W = Holds W "lists" table × standing_link.Stands W

below : (W : World) → Stands W → link.Below W
below W stands = (standing_link.linked_put_numbers W stands.1, tt)

pub linked_list_end : (W : World) → Stands W → HasT (in_world W) true code_of_list_end.code
unfolding table
linked_list_end W stands = link.«linked-lists::list_end» W stands.0 (below W stands)

pub linked_read_list : (W : World) → Stands W → HasT (in_world W) true code_of_read_list.code
unfolding table
linked_read_list W stands = link.«linked-lists::read_list» W stands.0 (below W stands)
