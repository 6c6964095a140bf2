-- The book's commands: what a line answers and does by what the file holds, and what every run of lines comes to.
pub mod Needs
pub mod Answers
pub mod Promises
pub mod Histories
