pub mod Build
pub mod Entry
pub mod Layout
