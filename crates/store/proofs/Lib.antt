pub mod Causes
mod Slots
