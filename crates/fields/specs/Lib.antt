pub mod Wrong
pub mod Line
