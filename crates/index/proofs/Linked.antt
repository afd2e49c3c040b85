-- What this crate gives to a link: its table, and of each public function that its code stands in
-- every world that holds this table and those below it.
use mathlib.Core.Bool.{true}
use prog.Linked.{World, Tree, Holds, in_world}
use prog.LinkedThreads.{HasT}
use Rattle.index.proofs.TheLink as link
use Rattle.index.proofs.numbers.end_of.Symbol as code_of_end_of
use Rattle.index.proofs.line.in_force.Symbol as code_of_in_force
use Rattle.index.proofs.line.line_of.Symbol as code_of_line_of
use Rattle.index.proofs.line.opened.Symbol as code_of_opened
use Rattle.index.proofs.numbers.stored.Symbol as code_of_stored
use Rattle.index.proofs.listed.unlisted.Symbol as code_of_unlisted
use Rattle.index.proofs.numbers.unplaced.Symbol as code_of_unplaced
use Rattle.index.proofs.line.with_span.Symbol as code_of_with_span
use Rattle.index.proofs.line.with_submessage.Symbol as code_of_with_submessage

unfoldable pub table : Tree
table = link.table

-- the world holds this table, and the tables below
abbrev pub Stands : World → Type 0
Stands W = Holds W "index" table

pub linked_end_of : (W : World) → Stands W → HasT (in_world W) true code_of_end_of.code
unfolding table
linked_end_of W stands = link.«linked-index::numbers::end_of» W stands tt

pub linked_in_force : (W : World) → Stands W → HasT (in_world W) true code_of_in_force.code
unfolding table
linked_in_force W stands = link.«linked-index::line::in_force» W stands tt

pub linked_line_of : (W : World) → Stands W → HasT (in_world W) true code_of_line_of.code
unfolding table
linked_line_of W stands = link.«linked-index::line::line_of» W stands tt

pub linked_opened : (W : World) → Stands W → HasT (in_world W) true code_of_opened.code
unfolding table
linked_opened W stands = link.«linked-index::line::opened» W stands tt

pub linked_stored : (W : World) → Stands W → HasT (in_world W) true code_of_stored.code
unfolding table
linked_stored W stands = link.«linked-index::numbers::stored» W stands tt

pub linked_unlisted : (W : World) → Stands W → HasT (in_world W) true code_of_unlisted.code
unfolding table
linked_unlisted W stands = link.«linked-index::listed::unlisted» W stands tt

pub linked_unplaced : (W : World) → Stands W → HasT (in_world W) true code_of_unplaced.code
unfolding table
linked_unplaced W stands = link.«linked-index::numbers::unplaced» W stands tt

pub linked_with_span : (W : World) → Stands W → HasT (in_world W) true code_of_with_span.code
unfolding table
linked_with_span W stands = link.«linked-index::line::with_span» W stands tt

pub linked_with_submessage : (W : World) → Stands W → HasT (in_world W) true code_of_with_submessage.code
unfolding table
linked_with_submessage W stands = link.«linked-index::line::with_submessage» W stands tt
