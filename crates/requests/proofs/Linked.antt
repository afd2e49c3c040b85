-- What this crate gives to a link: its table, and of each public function that its code stands in
-- every world that holds this table and those below it.
use mathlib.Core.Bool.{true}
use prog.Linked.{World, Tree, Holds, in_world}
use prog.LinkedThreads.{HasT}
use Rattle.octets.proofs.Linked as octets_link
use Rattle.requests.proofs.TheLink as link
use Rattle.requests.proofs.request_at.Symbol as code_of_request_at

unfoldable pub table : Tree
table = link.table

-- the world holds this table, and the tables below
abbrev pub Stands : World → Type 0
Stands W = Holds W "requests" table × octets_link.Stands W

below : (W : World) → Stands W → link.Below W
below W stands = (octets_link.linked_be16 W stands.1, (octets_link.linked_be32 W stands.1, tt))

pub linked_request_at : (W : World) → Stands W → HasT (in_world W) true code_of_request_at.code
unfolding table
linked_request_at W stands = link.«linked-requests::request_at» W stands.0 (below W stands)
