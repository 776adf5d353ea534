pub mod Maps
pub mod Kept
pub mod Outcomes
