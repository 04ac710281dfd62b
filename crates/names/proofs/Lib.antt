pub mod ToColon
