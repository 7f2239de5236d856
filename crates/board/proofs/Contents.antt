-- What calls on a draft keep, and what becomes no dearer by them.
pub mod Keeps
pub mod Softening
pub mod Easing
