-- The texts of the programs: bytes, decimal numbers, words with numbers, numbers read from a text, and the grounds in words.
pub mod Bytes
pub mod Decimal
pub mod Fields
pub mod Layout
pub mod Outputs
pub mod Grounds
pub mod Internal
