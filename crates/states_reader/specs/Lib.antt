pub mod Held
pub mod Inner
