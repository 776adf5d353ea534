pub mod Verdicts
pub mod Listings
pub mod Answering
