pub mod Come
pub mod Exact
