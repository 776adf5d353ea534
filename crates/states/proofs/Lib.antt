pub mod Values
pub mod Sequences
pub mod Filing
pub mod Gathering
pub mod Accepting
pub mod Gathered
pub mod Holding
pub mod Once
pub mod Judging
pub mod Steps
pub mod Calls
pub mod Unshared
pub mod Orders
pub mod Promises
mod Examples
