-- `Numbers` says what the lent tables hold after a walk where lines are numbers: it is to be
-- believed, and the contract cites it. `Moves` is machinery: what a line or a closed message
-- changes of where the walk stands, and the answers of the walk.
pub mod Numbers
pub mod Moves
