pub mod Lowest
pub mod Seconds
pub mod Slots
