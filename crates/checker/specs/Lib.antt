-- The rules on the check of a plan, in their order, and what the checker promises of it.
pub mod Check
pub mod Decision
pub mod Internal
