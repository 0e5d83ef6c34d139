pub mod Cutting
pub mod Hearing
