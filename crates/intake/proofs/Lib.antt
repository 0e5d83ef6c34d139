pub mod Admitted
pub mod Judged
pub mod Heard
pub mod Submitted
pub mod Unused
