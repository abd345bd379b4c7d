pub mod Ends
pub mod Pairs
pub mod Rising
pub mod Sealed
pub mod Sets
pub mod Shown
pub mod Sums
pub mod Words
