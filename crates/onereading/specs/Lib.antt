pub mod Statements
pub mod Lines
pub mod Blocks
pub mod Ignored
pub mod Rows
pub mod RoundTrip
