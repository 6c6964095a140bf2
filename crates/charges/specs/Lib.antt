-- The rules on charges, in their order, and what is promised of them.
pub mod Lengths
pub mod Rates
pub mod Charges
pub mod Promises
pub mod Internal
