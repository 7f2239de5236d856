-- What a reader must believe: what is printed of a file.
pub mod Least
-- The worked examples, in one table.
pub mod Worked
-- What only inner functions and proofs name.
pub mod Adding
