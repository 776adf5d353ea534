pub mod Filed
pub mod Inner
