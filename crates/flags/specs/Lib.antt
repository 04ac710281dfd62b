pub mod Test
pub mod Lowest
pub mod Sure
pub mod Steps
pub mod Classes
