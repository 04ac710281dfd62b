pub mod Answers
pub mod Ways
pub mod LineEnd
pub mod EmptyLines
pub mod Byte
