-- What operations come to, in numbers.
pub mod Outcomes
pub mod Changes
pub mod Entries
pub mod Cents
