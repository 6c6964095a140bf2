-- The text of the charges: what it reads and what it prints, in the order of the rules.
pub mod Reading
pub mod Layout
pub mod Promise
pub mod Internal
