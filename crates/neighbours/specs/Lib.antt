-- The promises of `prefixes` and `neighbours`.
pub mod Neighbours
pub mod Internal
