pub mod Filing
pub mod Cutting
pub mod Doing
pub mod Agreeing
pub mod Unique
