-- The proof of the table, and of the cases of charges, of crews, of the new form and of twins.
pub mod Sizes
pub mod Pairs
pub mod Plans
pub mod Texts
pub mod Book
pub mod Charges
pub mod NewForm
pub mod Table
pub mod Twins
