-- Lists of calls on a board.
pub mod Sounding
pub mod Numbers
pub mod Following
