pub mod Contents
pub mod Answers
pub mod Layout
pub mod Grids
pub mod Pools
