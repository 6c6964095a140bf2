-- The words of a way, the rows while it is held, and what rows hold.
pub mod WordLaws
pub mod HoldLaws
pub mod RowLaws
