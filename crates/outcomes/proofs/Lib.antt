-- The laws that the functions' proofs cite.
pub mod OutcomeLaws
pub mod EntryLaws
