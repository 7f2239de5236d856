pub mod Faults
pub mod Loads
pub mod Calls
pub mod Promising
