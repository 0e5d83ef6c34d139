pub mod Growing
pub mod Going
pub mod Accounting
