-- The promise of `maximum`.
pub mod Maximum
pub mod Internal
