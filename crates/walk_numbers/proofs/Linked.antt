-- What this crate gives to a link: its table, and of each public function that its code stands in
-- every world that holds this table and those below it.
use mathlib.Core.Bool.{true}
use prog.Linked.{World, Tree, Holds, in_world}
use prog.LinkedThreads.{HasT}
use Rattle.index.proofs.Linked as index_link
use Rattle.order.proofs.Linked as order_link
use Rattle.reading.proofs.Linked as reading_link
use Rattle.standing.proofs.Linked as standing_link
use Rattle.walk_numbers.proofs.TheLink as link
use Rattle.walk_numbers.proofs.numbers.walk_numbers.Symbol as code_of_walk_numbers

unfoldable pub table : Tree
table = link.table

-- the world holds this table, and the tables below
abbrev pub Stands : World → Type 0
Stands W = Holds W "walk_numbers" table × index_link.Stands W × order_link.Stands W × reading_link.Stands W × standing_link.Stands W

below : (W : World) → Stands W → link.Below W
below W stands = (index_link.linked_end_of W stands.1, (index_link.linked_line_of W stands.1, (index_link.linked_unlisted W stands.1, (order_link.linked_completing W stands.2, (reading_link.linked_glance W stands.3, (reading_link.linked_start W stands.3, (standing_link.linked_passed_row W stands.4, (standing_link.linked_put_numbers W stands.4, (standing_link.linked_put_row W stands.4, (standing_link.linked_span_after W stands.4, tt))))))))))

pub linked_walk_numbers : (W : World) → Stands W → HasT (in_world W) true code_of_walk_numbers.code
unfolding table
linked_walk_numbers W stands = link.«linked-walk_numbers::numbers::walk_numbers» W stands.0 (below W stands)
