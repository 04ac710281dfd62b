pub mod Lies
pub mod Slots
pub mod Checks
pub mod Lines
