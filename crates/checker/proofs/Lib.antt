-- The first refusal of a ground, conflicts of two requests, and what the checker decides.
pub mod GroundLaws
pub mod NumberLaws
pub mod ConflictLaws
pub mod PlacingLaws
pub mod AnswerLaws
pub mod FaultLaws
pub mod DecisionLaws
