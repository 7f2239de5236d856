pub mod Cutting
pub mod Digits
pub mod Listing
pub mod HexDigits
pub mod Trimming
pub mod Splitting
pub mod AllLaws
