-- The laws of the definitions in specs/ that proofs cite.
pub mod LineLaws
pub mod LayoutLaws
pub mod AnswerLaws
pub mod ReadBack
