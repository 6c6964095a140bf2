-- For contracts inside and for proofs alone: nothing here has to be believed.
pub mod Conflicts
