pub mod Pages
pub mod States
pub mod Order
pub mod Promises
