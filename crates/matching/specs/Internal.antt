-- For contracts inside and for proofs alone: nothing here has to be believed.
-- The graph, what the arrays stand for in the theory of the search (crate `blossom`), and what each step does to them.
pub mod Adjacency
pub mod Model
pub mod Arrays
pub mod Search
pub mod Labelling
pub mod Rows
pub mod Climbs
pub mod Steps
pub mod Bases
pub mod Progress
pub mod Start
