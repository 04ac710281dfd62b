pub mod LineRead
pub mod Wrong
