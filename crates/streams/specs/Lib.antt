-- No contract can say what is read or written.
pub mod Streams
