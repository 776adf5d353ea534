pub mod Noted
pub mod Inner
