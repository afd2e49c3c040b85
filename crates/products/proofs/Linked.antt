-- What this crate gives to a link: its table, and of each public function that its code stands in
-- every world that holds this table and those below it.
use mathlib.Core.Bool.{true}
use prog.Linked.{World, Tree, Holds, in_world}
use prog.LinkedThreads.{HasT}
use Rattle.octets.proofs.Linked as octets_link
use Rattle.products.proofs.TheLink as link
use Rattle.products.proofs.templates.offsets_at.Symbol as code_of_offsets_at
use Rattle.products.proofs.templates.offsets_by.Symbol as code_of_offsets_by
use Rattle.products.proofs.product_by.Symbol as code_of_product_by
use Rattle.products.proofs.product_of.Symbol as code_of_product_of
use Rattle.products.proofs.when_and_where.Symbol as code_of_when_and_where

unfoldable pub table : Tree
table = link.table

-- the world holds this table, and the tables below
abbrev pub Stands : World → Type 0
Stands W = Holds W "products" table × octets_link.Stands W

below : (W : World) → Stands W → link.Below W
below W stands = (octets_link.linked_be16 W stands.1, (octets_link.linked_be32 W stands.1, (octets_link.linked_sign_and_size W stands.1, tt)))

pub linked_offsets_at : (W : World) → Stands W → HasT (in_world W) true code_of_offsets_at.code
unfolding table
linked_offsets_at W stands = link.«linked-products::templates::offsets_at» W stands.0 (below W stands)

pub linked_offsets_by : (W : World) → Stands W → HasT (in_world W) true code_of_offsets_by.code
unfolding table
linked_offsets_by W stands = link.«linked-products::templates::offsets_by» W stands.0 (below W stands)

pub linked_product_by : (W : World) → Stands W → HasT (in_world W) true code_of_product_by.code
unfolding table
linked_product_by W stands = link.«linked-products::product_by» W stands.0 (below W stands)

pub linked_product_of : (W : World) → Stands W → HasT (in_world W) true code_of_product_of.code
unfolding table
linked_product_of W stands = link.«linked-products::product_of» W stands.0 (below W stands)

pub linked_when_and_where : (W : World) → Stands W → HasT (in_world W) true code_of_when_and_where.code
unfolding table
linked_when_and_where W stands = link.«linked-products::when_and_where» W stands.0 (below W stands)
