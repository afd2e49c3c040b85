-- What this crate gives to a link: its table, and of each public function that its code stands in
-- every world that holds this table and those below it.
use mathlib.Core.Bool.{true}
use prog.Linked.{World, Tree, Holds, in_world}
use prog.LinkedThreads.{HasT}
use Rattle.index.proofs.Linked as index_link
use Rattle.reading.proofs.Linked as reading_link
use Rattle.sections.proofs.Linked as sections_link
use Rattle.publish.proofs.TheLink as link
use Rattle.publish.proofs.copy_end.Symbol as code_of_copy_end
use Rattle.publish.proofs.publish.Symbol as code_of_publish

unfoldable pub table : Tree
table = link.table

-- the world holds this table, and the tables below
abbrev pub Stands : World → Type 0
Stands W = Holds W "publish" table × index_link.Stands W × reading_link.Stands W × sections_link.Stands W

below : (W : World) → Stands W → link.Below W
below W stands = (index_link.linked_end_of W stands.1, (index_link.linked_stored W stands.1, (index_link.linked_unlisted W stands.1, (index_link.linked_unplaced W stands.1, (reading_link.linked_look W stands.2, (reading_link.linked_start W stands.2, (sections_link.linked_values_of W stands.3, tt)))))))

pub linked_copy_end : (W : World) → Stands W → HasT (in_world W) true code_of_copy_end.code
unfolding table
linked_copy_end W stands = link.«linked-publish::copy_end» W stands.0 (below W stands)

pub linked_publish : (W : World) → Stands W → HasT (in_world W) true code_of_publish.code
unfolding table
linked_publish W stands = link.«linked-publish::publish» W stands.0 (below W stands)
