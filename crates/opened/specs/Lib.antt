pub mod Visits
pub mod Passing
