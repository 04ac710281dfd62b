pub mod Word
pub mod Target
