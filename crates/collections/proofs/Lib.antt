pub mod Names
pub mod Bounds
pub mod Screens
pub mod Promises
