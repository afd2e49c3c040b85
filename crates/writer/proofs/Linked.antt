-- What this crate gives to a link: its table, and of each public function that its code stands in
-- every world that holds this table and those below it.
use mathlib.Core.Bool.{true}
use prog.Linked.{World, Tree, Holds, in_world}
use prog.LinkedThreads.{HasT}
use Rattle.index.proofs.Linked as index_link
use Rattle.order.proofs.Linked as order_link
use Rattle.sections.proofs.Linked as sections_link
use Rattle.writer.proofs.TheLink as link
use Rattle.writer.proofs.write.Symbol as code_of_write
use Rattle.writer.proofs.write_end.Symbol as code_of_write_end

unfoldable pub table : Tree
table = link.table

-- the world holds this table, and the tables below
abbrev pub Stands : World → Type 0
Stands W = Holds W "writer" table × index_link.Stands W × order_link.Stands W × sections_link.Stands W

below : (W : World) → Stands W → link.Below W
below W stands = (index_link.linked_stored W stands.1, (index_link.linked_unplaced W stands.1, (order_link.linked_judge W stands.2, (sections_link.linked_least_payload_of W stands.3, tt))))

pub linked_write : (W : World) → Stands W → HasT (in_world W) true code_of_write.code
unfolding table
linked_write W stands = link.«linked-writer::write» W stands.0 (below W stands)

pub linked_write_end : (W : World) → Stands W → HasT (in_world W) true code_of_write_end.code
unfolding table
linked_write_end W stands = link.«linked-writer::write_end» W stands.0 (below W stands)
