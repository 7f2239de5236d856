-- The check of a list of moves.
pub mod Accepting
pub mod Walking
pub mod Refusing
pub mod Faulting
