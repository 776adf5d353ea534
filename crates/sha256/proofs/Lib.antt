pub mod Blocks
pub mod Tail
pub mod Whole
