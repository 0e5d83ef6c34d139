pub mod Letters
pub mod Statements
pub mod Codec
pub mod Frames
pub mod Steps
