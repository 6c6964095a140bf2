-- The definitions of the theory; its laws stand in proofs/.
pub mod Internal
