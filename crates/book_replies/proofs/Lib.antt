-- The laws that the functions' proofs cite.
pub mod ReplyLaws
pub mod ListingLaws
