pub mod Naming
pub mod Heaps
pub mod Sorted
pub mod Finding
