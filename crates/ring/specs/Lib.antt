-- The rules on rings, requests, ways, fates, plans, chords, matchings, pairs and refusals, in their order.
pub mod Requests
pub mod Ways
pub mod Fates
pub mod Plans
pub mod Chords
pub mod Matchings
pub mod Routing
pub mod Refusals
pub mod Answers
pub mod Admission
pub mod Buffers
pub mod Internal
