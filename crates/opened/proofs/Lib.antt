pub mod Picks
pub mod OpenFlags
pub mod Visits
pub mod Digests
pub mod Marking
pub mod Staging
pub mod Parts
pub mod WholePass
