pub mod Places
pub mod Passing
pub mod Rises
pub mod Filing
