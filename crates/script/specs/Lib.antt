-- What a reader must believe: the commands of a script, how each is written as a line, and how lines are read (that a written
-- command is read back says `CommandsReadBack` of Written);
pub mod Commands
pub mod Names
pub mod Written
pub mod Errors
pub mod Forms
pub mod Repeats
pub mod Script
-- what is printed of an answer and of a script.
pub mod Telling
pub mod Printing
-- Worked scripts, and what is printed of them.
pub mod Worked
-- What only inner functions and proofs name.
pub mod Sessions
pub mod Reads
