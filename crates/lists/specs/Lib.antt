-- The reader of a list: `Line` what a line says, `Lists` what a reader stores and answers, `End`
-- the answer's numbers, `Laws` when each answer is given.
pub mod Line
pub mod Lists
pub mod End
pub mod Laws
