-- What a reader must believe: what a kind of cost means, and its laws;
pub mod Meaning
-- the three kinds, their names and letters;
pub mod Kinds
pub mod Names
-- a list of costs joined.
pub mod Lists
-- Worked examples of joining.
pub mod Examples
