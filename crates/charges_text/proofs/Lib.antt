-- The laws that the functions' proofs cite.
pub mod ReadLaws
pub mod LineLaws
