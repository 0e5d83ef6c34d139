pub mod Putting
pub mod Columns
pub mod Leading
pub mod Cutting
pub mod Rows
pub mod Filing
