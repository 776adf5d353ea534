pub mod Shared
pub mod Orders
