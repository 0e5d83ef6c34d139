pub mod Numbers
pub mod Columns
pub mod Readings
pub mod Orders
pub mod Bytes
pub mod OneHouse
pub mod ReadingUnique
pub mod OrderUnique
