-- What a reader must believe: what a line comes to, and what is printed of all lines.
pub mod Lines
pub mod Printed
-- What only an inner function and a proof name.
pub mod Unread
