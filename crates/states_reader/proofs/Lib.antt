pub mod Verdicts
pub mod Keys
pub mod Noting
pub mod Sorting
pub mod Judging
pub mod Matching
pub mod Holding
