pub mod ValueOrder
pub mod MapLaws
pub mod MergeLaws
pub mod Parts
pub mod Steps
pub mod OpenedLaws
pub mod CountedLaws
pub mod DifferenceLaws
pub mod Lookups
pub mod Orders
pub mod TrueHeads
pub mod Promises
pub mod ListingLaws
mod Examples
pub mod RangeLaws
