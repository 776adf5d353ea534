pub mod Depth
pub mod Fronts
pub mod Trees
pub mod Pages
pub mod Turns
pub mod Falling
