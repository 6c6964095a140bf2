-- The laws that the functions' proofs cite, and the theorems whose statements stand in specs/: Keeping (RefusedLeaves, LengthPast),
-- CallHistories.
pub mod CallLaws
pub mod Keeping
pub mod CallHistories
