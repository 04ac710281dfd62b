pub mod Head
pub mod Calls
