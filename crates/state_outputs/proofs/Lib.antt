pub mod Finishing
pub mod StateKeys
