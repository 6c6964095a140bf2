-- The rules on the stored form, store, load and the conversions, in their order, and what is promised of them.
pub mod Blocks
pub mod Forms
pub mod Storing
pub mod Reading
pub mod Validity
pub mod Loading
pub mod Converting
pub mod Promises
pub mod Histories
pub mod Internal
