-- The two conversions of a stored book.
pub mod Conversions
