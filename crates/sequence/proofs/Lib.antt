pub mod Links
pub mod Sizes
pub mod Sequences
pub mod Places
