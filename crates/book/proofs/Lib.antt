-- The laws that the functions' proofs cite, and the theorems whose statements stand in specs/:
-- Sameness (SameMeans), ConflictLaws (ConflictMeans), Validity (KeepsValid), PlaceLaws (PlacesUsedAgain),
-- NoNodeLaws (TurnsAllDown), EveryHistory, Readings (DeskReads, Isolation), RevisionLaws (RevisionRises, RevisionCounts), RevisionMoments
-- (NotRevived).
pub mod Places
pub mod Forms
pub mod States
pub mod Sameness
pub mod CircuitLists
pub mod Opening
pub mod Lookups
pub mod Outcomes
pub mod Marks
pub mod Shifts
pub mod Searches
pub mod ConflictLaws
pub mod Verdicts
pub mod Granting
pub mod Validity
pub mod Standings
pub mod StandingChanges
pub mod LiveOrders
pub mod Holding
pub mod Serials
pub mod Agreement
pub mod NoNodeLaws
pub mod PlaceLaws
pub mod Histories
pub mod EveryHistory
pub mod Readings
pub mod RevisionLaws
pub mod RevisionMoments
