pub mod Ways
pub mod Rows
pub mod Memories
pub mod Counting
pub mod Searching
