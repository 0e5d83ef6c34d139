pub mod Groups
pub mod Makings
pub mod Weeks
pub mod Traces
