pub mod Weaving
pub mod Sifting
pub mod Values
pub mod Choosing
pub mod Turns
