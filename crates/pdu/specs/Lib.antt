pub mod Octets
pub mod Sum
pub mod Types
pub mod Said
pub mod Read
pub mod Write
pub mod Damage
pub mod Examples
