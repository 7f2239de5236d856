-- The least costs that settling keeps, and how it finds the candidate of a round by them.
pub mod Lowering
pub mod Bracketing
pub mod Plain
pub mod Leads
pub mod Links
pub mod Stating
pub mod Gathering
pub mod Winning
pub mod Calling
pub mod Awaiting
pub mod Rounding
pub mod Knowing
