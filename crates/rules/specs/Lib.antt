pub mod Rules
pub mod Settings
