-- `Stands` says when a request stands inside the input; `EachKind` has the laws of each kind;
-- `Places` those of all: where a request's octets stand, and where the next one starts.
pub mod Stands
pub mod EachKind
pub mod Places
pub mod Linked
