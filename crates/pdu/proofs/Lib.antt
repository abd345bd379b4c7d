pub mod Framed
pub mod Ones
pub mod Shows
pub mod Back
pub mod Walks
pub mod Counts
pub mod Puts
