pub mod Exact
pub mod Seq
pub mod Judged
pub mod Loop
pub mod Branch
pub mod Refusing
