pub mod Beside
pub mod Positions
