pub mod Working
pub mod Limit
pub mod Showing
pub mod Streams
