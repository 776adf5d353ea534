pub mod Tests
pub mod Writing
pub mod Setting
