-- The text of the check: what it reads and what it prints, in the order of the rules.
pub mod Reading
pub mod Verdict
pub mod Promise
pub mod Passing
pub mod Internal
