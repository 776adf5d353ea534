pub mod Members
pub mod Parts
pub mod Naming
pub mod Places
pub mod Turns
pub mod Adding
pub mod Ending
