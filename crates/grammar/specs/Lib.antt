pub mod Rows
pub mod Fields
pub mod Message
pub mod Chunked
