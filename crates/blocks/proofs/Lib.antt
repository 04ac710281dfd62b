pub mod BlockRead
