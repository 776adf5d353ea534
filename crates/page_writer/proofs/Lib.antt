pub mod Sizes
pub mod Writers
