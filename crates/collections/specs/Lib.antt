pub mod Screen
pub mod Order
pub mod Promises
