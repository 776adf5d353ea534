pub mod ChainPages
pub mod PageSizes
pub mod Words
pub mod Places
pub mod Staged
