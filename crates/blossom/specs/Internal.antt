-- For contracts inside and for proofs alone: nothing here has to be believed.
pub mod Labels
pub mod Rows
pub mod State
pub mod Searches
pub mod Certificate
