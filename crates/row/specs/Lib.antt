pub mod Row
pub mod Memory
pub mod Fetch
pub mod Search
