pub mod Wrote
pub mod Output
