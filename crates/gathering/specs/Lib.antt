pub mod Gathered
pub mod Inner
