pub mod Limits
pub mod Times
pub mod Causes
