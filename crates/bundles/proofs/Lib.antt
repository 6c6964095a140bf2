-- The laws that the functions' proofs cite, and the theorem whose statement stands in specs/: PreviewLaws (PreviewSays).
pub mod PreviewLaws
pub mod Trials
pub mod BundleLaws
