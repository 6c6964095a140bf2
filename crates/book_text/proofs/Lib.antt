-- The laws that the functions' proofs cite, and the theorems whose statements stand in specs/: LineHistories (OnlyWritingChanges,
-- LineHistories), Typed (TypedT7).
pub mod AnswerLaws
pub mod ObeyLaws
pub mod LineHistories
pub mod Typed
