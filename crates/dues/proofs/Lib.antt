pub mod Telling
pub mod Finding
pub mod Voting
pub mod Unmarked
pub mod Slotting
pub mod Backing
pub mod Paging
