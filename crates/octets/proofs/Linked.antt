-- What this crate gives to a link: its table, and of each public function that its code stands in
-- every world that holds this table and those below it.
use mathlib.Core.Bool.{true}
use prog.Linked.{World, Tree, Holds, in_world}
use prog.LinkedThreads.{HasT}
use Rattle.octets.proofs.TheLink as link
use Rattle.octets.proofs.be16.Symbol as code_of_be16
use Rattle.octets.proofs.be32.Symbol as code_of_be32
use Rattle.octets.proofs.be64.Symbol as code_of_be64
use Rattle.octets.proofs.sign_and_size.Symbol as code_of_sign_and_size

unfoldable pub table : Tree
table = link.table

-- the world holds this table, and the tables below
abbrev pub Stands : World → Type 0
Stands W = Holds W "octets" table

pub linked_be16 : (W : World) → Stands W → HasT (in_world W) true code_of_be16.code
unfolding table
linked_be16 W stands = link.«linked-octets::be16» W stands tt

pub linked_be32 : (W : World) → Stands W → HasT (in_world W) true code_of_be32.code
unfolding table
linked_be32 W stands = link.«linked-octets::be32» W stands tt

pub linked_be64 : (W : World) → Stands W → HasT (in_world W) true code_of_be64.code
unfolding table
linked_be64 W stands = link.«linked-octets::be64» W stands tt

pub linked_sign_and_size : (W : World) → Stands W → HasT (in_world W) true code_of_sign_and_size.code
unfolding table
linked_sign_and_size W stands = link.«linked-octets::sign_and_size» W stands tt
