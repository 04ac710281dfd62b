pub mod Slots
pub mod Block
