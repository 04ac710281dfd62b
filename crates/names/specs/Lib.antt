pub mod Name
pub mod Colon
