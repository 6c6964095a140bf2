-- The cases of the rules that are proved.
pub mod Charges
pub mod Crews
pub mod NewForm
pub mod Table
pub mod Twins
