-- Case splits and counts, and the laws of the definitions in specs/ that proofs cite.
pub mod Cases
pub mod Counting
pub mod ListLaws
pub mod BufferLaws
pub mod RequestLaws
pub mod WayLaws
pub mod FateLaws
pub mod PlanLaws
pub mod ChordLaws
pub mod RoutingLaws
pub mod AdmissionLaws
