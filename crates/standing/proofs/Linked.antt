-- What this crate gives to a link: its table, and of each public function that its code stands in
-- every world that holds this table and those below it.
use mathlib.Core.Bool.{true}
use prog.Linked.{World, Tree, Holds, in_world}
use prog.LinkedThreads.{HasT}
use Rattle.standing.proofs.TheLink as link
use Rattle.standing.proofs.one_more.Symbol as code_of_one_more
use Rattle.standing.proofs.passed_row.Symbol as code_of_passed_row
use Rattle.standing.proofs.put_numbers.Symbol as code_of_put_numbers
use Rattle.standing.proofs.put_row.Symbol as code_of_put_row
use Rattle.standing.proofs.span_after.Symbol as code_of_span_after

unfoldable pub table : Tree
table = link.table

-- the world holds this table, and the tables below
abbrev pub Stands : World → Type 0
Stands W = Holds W "standing" table

pub linked_one_more : (W : World) → Stands W → HasT (in_world W) true code_of_one_more.code
unfolding table
linked_one_more W stands = link.«linked-standing::one_more» W stands tt

pub linked_passed_row : (W : World) → Stands W → HasT (in_world W) true code_of_passed_row.code
unfolding table
linked_passed_row W stands = link.«linked-standing::passed_row» W stands tt

pub linked_put_numbers : (W : World) → Stands W → HasT (in_world W) true code_of_put_numbers.code
unfolding table
linked_put_numbers W stands = link.«linked-standing::put_numbers» W stands tt

pub linked_put_row : (W : World) → Stands W → HasT (in_world W) true code_of_put_row.code
unfolding table
linked_put_row W stands = link.«linked-standing::put_row» W stands tt

pub linked_span_after : (W : World) → Stands W → HasT (in_world W) true code_of_span_after.code
unfolding table
linked_span_after W stands = link.«linked-standing::span_after» W stands tt
