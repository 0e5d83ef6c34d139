pub mod Stepping
pub mod Turning
pub mod Ties
