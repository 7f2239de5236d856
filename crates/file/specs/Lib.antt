-- What a reader must believe: how a file is laid out, within which limits, and what it describes; by which rule a load is
-- declined, and how that is told;
pub mod Trust
pub mod Parts
pub mod Layout
pub mod Declined
pub mod Refusals
-- what a list of calls makes of a board, what each call answers, and the main promise.
pub mod States
pub mod Answers
pub mod Easing
pub mod Promise
pub mod Histories
pub mod Laws
-- Executable twins, which read a file from its front: a load accepts and makes what Layout describes, by `LoadsExactly` there,
-- and is declined as Declined says, by `DeclinesExactly` there. (Of them Declined names a word's fields; Declined and
-- Layout name the codes of sections and a line at its trusted cost; and States names `load_after`, Answers `load_answer`, and Laws
-- both, of Load: what a load leaves, which is a new board where it is declined, and what it answers.)
pub mod Fields
pub mod Sections
pub mod Records
pub mod Load
-- Worked examples of the layout and of a load.
pub mod Examples
-- What only inner functions and proofs name.
pub mod Readers
pub mod Fillings
