pub mod Firsts
pub mod Cellrows
