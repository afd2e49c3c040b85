-- What the contracts of the C face cite: `Stores` the answers of the public copy, the writer and
-- the inventory, `Lists` those of the reader of a list, `Fields` and `Product` the decoded fields
-- as numbers. What lies below is cited of the library.
pub mod Stores
pub mod Lists
pub mod Fields
pub mod Product
