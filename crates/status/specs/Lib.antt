pub mod Code
pub mod Reason
