pub mod Faults
pub mod Slots
pub mod Meanings
pub mod Making
pub mod Kept
