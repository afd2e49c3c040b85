-- What this crate gives to a link: its table, and of each public function that its code stands in
-- every world that holds this table and those below it.
use mathlib.Core.Bool.{true}
use prog.Linked.{World, Tree, Holds, in_world}
use prog.LinkedThreads.{HasT}
use Rattle.octets.proofs.Linked as octets_link
use Rattle.sections.proofs.Linked as sections_link
use Rattle.framing.proofs.TheLink as link
use Rattle.framing.proofs.read.framed_at.Symbol as code_of_framed_at
use Rattle.framing.proofs.search.next_start.Symbol as code_of_next_start

unfoldable pub table : Tree
table = link.table

-- the world holds this table, and the tables below
abbrev pub Stands : World → Type 0
Stands W = Holds W "framing" table × octets_link.Stands W × sections_link.Stands W

below : (W : World) → Stands W → link.Below W
below W stands = (octets_link.linked_be32 W stands.1, (octets_link.linked_be64 W stands.1, (sections_link.linked_least_payload_of W stands.2, tt)))

pub linked_framed_at : (W : World) → Stands W → HasT (in_world W) true code_of_framed_at.code
unfolding table
linked_framed_at W stands = link.«linked-framing::read::framed_at» W stands.0 (below W stands)

pub linked_next_start : (W : World) → Stands W → HasT (in_world W) true code_of_next_start.code
unfolding table
linked_next_start W stands = link.«linked-framing::search::next_start» W stands.0 (below W stands)
