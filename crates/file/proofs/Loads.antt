-- What a load accepts and makes, against the layout of files.
pub mod Words
pub mod Bytes
pub mod Steps
pub mod Turns
pub mod Sequences
pub mod Limits
pub mod Heads
pub mod Tails
pub mod Beyond
pub mod Exactly
pub mod Longest
pub mod Standing
