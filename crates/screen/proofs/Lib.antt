pub mod Naming
pub mod Showing
