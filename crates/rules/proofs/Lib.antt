pub mod Slipping
pub mod Plain
