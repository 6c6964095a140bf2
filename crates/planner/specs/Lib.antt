-- The plan, in the order of the rules, and what the planner promises of it.
pub mod PairPart
pub mod Plan
pub mod Ceiling
pub mod Promise
pub mod Internal
