-- What the desk is told.
pub mod Replies
pub mod Internal
