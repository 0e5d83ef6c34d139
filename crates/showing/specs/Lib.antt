pub mod Boards
pub mod Spoken
pub mod Showing
pub mod Laws
