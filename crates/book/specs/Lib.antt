-- The rules on the book, in their order, and what is promised of it.
pub mod Circuits
pub mod Books
pub mod Crews
pub mod Holders
pub mod Grants
pub mod Orders
pub mod Removals
pub mod Confirmations
pub mod Places
pub mod NoNodes
pub mod History
pub mod Isolation
pub mod Revisions
pub mod Internal
