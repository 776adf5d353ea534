pub mod Positions
pub mod Covering
pub mod Paths
pub mod Copying
pub mod Outcomes
pub mod Verdicts
