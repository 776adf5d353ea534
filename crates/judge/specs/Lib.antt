pub mod Layers
pub mod Prefixes
pub mod Standing
pub mod Verdict
