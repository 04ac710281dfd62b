pub mod AfterAll
pub mod Calls
pub mod Chunk
pub mod Colons
pub mod Decided
pub mod Exactly
pub mod Inside
pub mod Kept
