pub mod Path
pub mod Verify
pub mod Order
pub mod Promises
