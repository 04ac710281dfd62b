pub mod Restated
