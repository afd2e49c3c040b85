-- `Tables` says what a row is and what a lent table holds after a walk: it is to be believed, and
-- the definitions of both walks cite it. `Put` and `Standing` are machinery: what the function that
-- stores a row leaves, and where a walk stands.
pub mod Tables
pub mod Put
pub mod Standing
