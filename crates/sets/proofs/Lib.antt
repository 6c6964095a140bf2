-- The bits of a word, the lowest of them, sets by their words, and the search for the next number.
pub mod BitLaws
pub mod TrailingLaws
pub mod SetLaws
pub mod NextLaws
