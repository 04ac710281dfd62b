pub mod Derived
pub mod OneLine
pub mod OneLineHead
