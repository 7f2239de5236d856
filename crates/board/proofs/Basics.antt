-- What the laws of costs give, and lemmas on lists and on the numbers of places and pairs.
pub mod Elements
pub mod Membership
pub mod Laws
pub mod Joining
pub mod Numbers
