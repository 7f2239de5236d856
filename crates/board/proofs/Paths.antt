-- Moves, paths and their brackets.
pub mod Naming
pub mod Transitions
pub mod Standing
pub mod Balance
pub mod Decomposing
