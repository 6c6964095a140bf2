-- What a line that is typed at the desk says.
pub mod Lines
pub mod Internal
