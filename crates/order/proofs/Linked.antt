-- What this crate gives to a link: its table, and of each public function that its code stands in
-- every world that holds this table and those below it.
use mathlib.Core.Bool.{true}
use prog.Linked.{World, Tree, Holds, in_world}
use prog.LinkedThreads.{HasT}
use Rattle.order.proofs.TheLink as link
use Rattle.order.proofs.between_messages.Symbol as code_of_between_messages
use Rattle.order.proofs.completing.Symbol as code_of_completing
use Rattle.order.proofs.judge.Symbol as code_of_judge
use Rattle.order.proofs.judge_all.Symbol as code_of_judge_all
use Rattle.order.proofs.judge_read.Symbol as code_of_judge_read

unfoldable pub table : Tree
table = link.table

-- the world holds this table, and the tables below
abbrev pub Stands : World → Type 0
Stands W = Holds W "order" table

pub linked_between_messages : (W : World) → Stands W → HasT (in_world W) true code_of_between_messages.code
unfolding table
linked_between_messages W stands = link.«linked-order::between_messages» W stands tt

pub linked_completing : (W : World) → Stands W → HasT (in_world W) true code_of_completing.code
unfolding table
linked_completing W stands = link.«linked-order::completing» W stands tt

pub linked_judge : (W : World) → Stands W → HasT (in_world W) true code_of_judge.code
unfolding table
linked_judge W stands = link.«linked-order::judge» W stands tt

pub linked_judge_all : (W : World) → Stands W → HasT (in_world W) true code_of_judge_all.code
unfolding table
linked_judge_all W stands = link.«linked-order::judge_all» W stands tt

pub linked_judge_read : (W : World) → Stands W → HasT (in_world W) true code_of_judge_read.code
unfolding table
linked_judge_read W stands = link.«linked-order::judge_read» W stands tt
