pub mod Trim
pub mod Value
