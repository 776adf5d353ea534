pub mod Tools
pub mod Readers
pub mod Numbers
pub mod Pages
pub mod AllBytes
pub mod Standing
pub mod Examples
