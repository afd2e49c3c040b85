-- `replaying::answered` meets its contract: a request's octets stand inside the input, and the
-- tables and the destination that it asks for inside their limits.
use Rattle.std.proofs.Common.{◌≡◌, ℕ, List, Option, Some, ap, sym, ◌∙◌, rules}
use Rattle.requests.specs.Requests.{request_at}
use Rattle.requests.specs.declared.Request.{Request}
use Rattle.requests.proofs.Stands.{Stands}
use Rattle.requests.proofs.Places.{stands_at}
use Rattle.replaying.proofs.answered.Goals as goal

-- the request that was read, by its kind
stands_of : (s : List ℕ) (at : ℕ) (read : Option Request) (request kind : Request)
    → read ≡ request_at s at → read ≡ Some request → request ≡ kind
    → Stands s at (Some kind)
stands_of s at read request kind e f k =
    stands_at s at (Some kind) (sym e ∙ f ∙ ap (λ r. Some r) k)

pub between-requires : goal.between-requires
between-requires g c =
    let w = stands_of _ _ _ _ _ c.request_at-request.ensures c.in-Some.is c.in-Walk.is in
    (w.octets.ordered, w.octets.within)

pub answer_walk-requires : goal.answer_walk-requires
answer_walk-requires g c =
    let w = stands_of _ _ _ _ _ c.request_at-request.ensures c.in-Some.is c.in-Walk.is in
    (w.numbers, w.lines)

pub between-requires-in-Pull : goal.between-requires-in-Pull
between-requires-in-Pull g c =
    let w = stands_of _ _ _ _ _ c.request_at-request.ensures c.in-Some.is c.in-Pull.is in
    (w.ordered, w.within)

pub between-requires-in-Copy : goal.between-requires-in-Copy
between-requires-in-Copy g c =
    let w = stands_of _ _ _ _ _ c.request_at-request.ensures c.in-Some.is c.in-Copy.is in
    (w.octets.ordered, w.octets.within)

pub answer_copy-requires : goal.answer_copy-requires
answer_copy-requires g c =
    (stands_of _ _ _ _ _ c.request_at-request.ensures c.in-Some.is c.in-Copy.is).room

pub answer_write-requires : goal.answer_write-requires
answer_write-requires g c = (
  (stands_of _ _ _ _ _ c.request_at-request.ensures c.in-Some.is c.in-Write.is).planned,
  search rules,
)

pub between-requires-in-Fields : goal.between-requires-in-Fields
between-requires-in-Fields g c =
    let w = stands_of _ _ _ _ _ c.request_at-request.ensures c.in-Some.is c.in-Fields.is in
    (w.ordered, w.within)

pub between-requires-in-Signed : goal.between-requires-in-Signed
between-requires-in-Signed g c =
    let w = stands_of _ _ _ _ _ c.request_at-request.ensures c.in-Some.is c.in-Signed.is in
    (w.ordered, w.within)

pub between-requires-in-Inventory : goal.between-requires-in-Inventory
between-requires-in-Inventory g c =
    let w = stands_of _ _ _ _ _ c.request_at-request.ensures c.in-Some.is c.in-Inventory.is in
    (w.octets.ordered, w.octets.within)

pub answer_inventory-requires : goal.answer_inventory-requires
answer_inventory-requires g c =
    (stands_of _ _ _ _ _ c.request_at-request.ensures c.in-Some.is c.in-Inventory.is).room

pub between-requires-in-List : goal.between-requires-in-List
between-requires-in-List g c =
    let w = stands_of _ _ _ _ _ c.request_at-request.ensures c.in-Some.is c.in-List.is in
    (w.octets.ordered, w.octets.within)

pub answer_list-requires : goal.answer_list-requires
answer_list-requires g c =
    (stands_of _ _ _ _ _ c.request_at-request.ensures c.in-Some.is c.in-List.is).room

pub between-requires-in-WhenWhere : goal.between-requires-in-WhenWhere
between-requires-in-WhenWhere g c =
    let w = stands_of _ _ _ _ _ c.request_at-request.ensures c.in-Some.is c.in-WhenWhere.is in
    (w.ordered, w.within)
