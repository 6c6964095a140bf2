-- The chain part of a plan, in the order of the rules.
pub mod Order
pub mod Rule
pub mod ChainPart
pub mod Promises
pub mod Internal
