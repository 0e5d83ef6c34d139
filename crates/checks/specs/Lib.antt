pub mod Given
pub mod Examples
