-- What the contracts of `sections` cite: the table of kinds, and for each kind with fields what its
-- octets say.
pub mod Kinds
pub mod Indicator
pub mod Identification
pub mod GridDefinition
pub mod ProdDefinition
pub mod ReprDefinition
pub mod BitMap
