-- What this crate gives to a link: its table, and of each public function that its code stands in
-- every world that holds this table and those below it.
use mathlib.Core.Bool.{true}
use prog.Linked.{World, Tree, Holds, in_world}
use prog.LinkedThreads.{HasT}
use Rattle.framing.proofs.Linked as framing_link
use Rattle.octets.proofs.Linked as octets_link
use Rattle.order.proofs.Linked as order_link
use Rattle.sections.proofs.Linked as sections_link
use Rattle.reading.proofs.TheLink as link
use Rattle.reading.proofs.quick.glance.Symbol as code_of_glance
use Rattle.reading.proofs.look.Symbol as code_of_look
use Rattle.reading.proofs.start.Symbol as code_of_start

unfoldable pub table : Tree
table = link.table

-- the world holds this table, and the tables below
abbrev pub Stands : World → Type 0
Stands W = Holds W "reading" table × framing_link.Stands W × octets_link.Stands W × order_link.Stands W × sections_link.Stands W

below : (W : World) → Stands W → link.Below W
below W stands = (framing_link.linked_framed_at W stands.1, (octets_link.linked_be32 W stands.2, (order_link.linked_between_messages W stands.3, (order_link.linked_judge_read W stands.3, (sections_link.linked_least_payload_of W stands.4, tt)))))

pub linked_glance : (W : World) → Stands W → HasT (in_world W) true code_of_glance.code
unfolding table
linked_glance W stands = link.«linked-reading::quick::glance» W stands.0 (below W stands)

pub linked_look : (W : World) → Stands W → HasT (in_world W) true code_of_look.code
unfolding table
linked_look W stands = link.«linked-reading::look» W stands.0 (below W stands)

pub linked_start : (W : World) → Stands W → HasT (in_world W) true code_of_start.code
unfolding table
linked_start W stands = link.«linked-reading::start» W stands.0 (below W stands)
