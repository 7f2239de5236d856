-- What a reader must believe: the pieces of bytes between separators, the numbers that words write, in decimal and in
-- hexadecimal, trimming and splitting;
pub mod Pieces
pub mod Numbers
pub mod Hex
pub mod Trims
pub mod Splits
-- and their laws in one record.
pub mod Laws
-- What only an inner function and proofs name.
pub mod Digits
