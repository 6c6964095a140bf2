-- The laws of the definitions in specs/ that proofs cite.
pub mod DecimalLaws
pub mod WritingLaws
pub mod OutputLaws
pub mod WordLaws
pub mod FieldLaws
pub mod DecimalRead
pub mod GroundLaws
