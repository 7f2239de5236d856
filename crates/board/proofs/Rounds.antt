-- Rounds and the log that they make: it exists, is the only one, and its records are the least.
pub mod Diagonal
pub mod Candidates
pub mod Precedence
pub mod Pairs
pub mod Spelling
pub mod Minimal
pub mod Runs
pub mod Existence
pub mod Uniqueness
pub mod Logging
pub mod Pushing
pub mod Starting
