-- What the contracts of `products` cite: `Ranges` what a table of ranges says of a number,
-- `Templates` the four tables of product definition templates, `Readings` what the Manual has
-- otherwise, `Rows` three of the tables row by row, as the code has them, `Products` the product
-- fields. `Agreement` says where the two readings differ, and that they agree everywhere else,
-- `OneCall` what the one call for time and surfaces answers; `Reads` is for the function that takes
-- a reader.
pub mod Ranges
pub mod Templates
pub mod Readings
pub mod Rows
pub mod Products
pub mod Agreement
pub mod OneCall
pub mod Reads
