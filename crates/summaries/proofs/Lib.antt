pub mod Tallies
pub mod Fixed
pub mod Keys
pub mod Parts
pub mod Fine
pub mod Roots
pub mod States
