pub mod Buffers
pub mod Tests
pub mod Entries
pub mod Prefixes
