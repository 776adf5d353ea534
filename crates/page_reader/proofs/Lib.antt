pub mod Places
pub mod PagePlaces
pub mod Determined
pub mod Located
pub mod Spelling
