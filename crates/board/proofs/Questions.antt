-- The recorded reading, and what a settled board answers.
pub mod Readings
pub mod Single
pub mod Finding
pub mod Depth
pub mod Scanning
pub mod Unwinding
pub mod Holding
pub mod Packs
pub mod Answering
pub mod Telling
