pub mod Writing
pub mod Moving
pub mod Calls
pub mod Placing
pub mod Setting
