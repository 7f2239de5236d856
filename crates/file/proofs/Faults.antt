-- Where a load is declined, and by which fault.
pub mod Stops
pub mod Rules
pub mod Sofar
pub mod Declines
pub mod Declining
