pub mod Reading
pub mod Printing
pub mod Written
