-- What this crate gives to a link: its table, and of each public function that its code stands in
-- every world that holds this table and those below it.
use mathlib.Core.Bool.{true}
use prog.Linked.{World, Tree, Holds, in_world}
use prog.LinkedThreads.{HasT}
use Rattle.index.proofs.Linked as index_link
use Rattle.reading.proofs.Linked as reading_link
use Rattle.pull.proofs.TheLink as link
use Rattle.pull.proofs.Reader.next.Symbol as code_of_reader_next
use Rattle.pull.proofs.first.Symbol as code_of_first
use Rattle.pull.proofs.new.Symbol as code_of_new
use Rattle.pull.proofs.pull_at.Symbol as code_of_pull_at

unfoldable pub table : Tree
table = link.table

-- the world holds this table, and the tables below
abbrev pub Stands : World → Type 0
Stands W = Holds W "pull" table × index_link.Stands W × reading_link.Stands W

below : (W : World) → Stands W → link.Below W
below W stands = (index_link.linked_unlisted W stands.1, (reading_link.linked_look W stands.2, (reading_link.linked_start W stands.2, tt)))

pub linked_reader_next : (W : World) → Stands W → HasT (in_world W) true code_of_reader_next.code
unfolding table
linked_reader_next W stands = link.«linked-pull::Reader::next» W stands.0 (below W stands)

pub linked_first : (W : World) → Stands W → HasT (in_world W) true code_of_first.code
unfolding table
linked_first W stands = link.«linked-pull::first» W stands.0 (below W stands)

pub linked_new : (W : World) → Stands W → HasT (in_world W) true code_of_new.code
unfolding table
linked_new W stands = link.«linked-pull::new» W stands.0 (below W stands)

pub linked_pull_at : (W : World) → Stands W → HasT (in_world W) true code_of_pull_at.code
unfolding table
linked_pull_at W stands = link.«linked-pull::pull_at» W stands.0 (below W stands)
