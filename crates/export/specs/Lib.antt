-- The C interface: what each call answers, in numbers.
pub mod Calls
pub mod BookCalls
pub mod Histories
