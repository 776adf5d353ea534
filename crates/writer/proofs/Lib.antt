pub mod Falling
pub mod Tables
pub mod Overwriting
pub mod Gaps
pub mod Turns
pub mod Composing
pub mod Whole
pub mod Heads
