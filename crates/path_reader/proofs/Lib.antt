pub mod Keys
pub mod Rows
pub mod PageTests
pub mod Paths
