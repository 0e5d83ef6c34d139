pub mod Leaving
pub mod Keeping
pub mod Tying
pub mod Fitted
pub mod Tied
pub mod Sameness
