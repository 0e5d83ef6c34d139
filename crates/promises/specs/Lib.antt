pub mod Runs
pub mod Promised
pub mod Met
