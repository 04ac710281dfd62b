pub mod Row
pub mod Reading
