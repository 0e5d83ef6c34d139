pub mod Texts
pub mod Laying
pub mod Files
pub mod Grids
