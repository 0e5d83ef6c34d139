pub mod Commands
pub mod Scripts
pub mod Writing
