pub mod Loop
pub mod Refusing
pub mod Seq
