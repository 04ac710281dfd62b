pub mod Grammar
pub mod Class
pub mod Table
pub mod Outside
