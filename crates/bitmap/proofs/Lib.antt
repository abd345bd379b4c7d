pub mod Counts
pub mod Bits
pub mod Words
pub mod Steps
pub mod Joins
