-- The laws of the definitions in specs/ that proofs cite.
pub mod TableLaws
pub mod VerdictLaws
pub mod PassingLaws
pub mod ReadBack
