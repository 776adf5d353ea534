pub mod Comparing
pub mod Standing
pub mod Laws
mod Numbers
