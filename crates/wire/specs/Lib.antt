pub mod Faults
pub mod Kinds
pub mod Views
pub mod Told
pub mod Written
