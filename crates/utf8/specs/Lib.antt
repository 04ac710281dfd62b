pub mod Grammar
pub mod Reader
pub mod Values
pub mod Rows
